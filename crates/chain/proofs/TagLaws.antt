-- Where a tag's payload may start.
use Prim.Native.Nat.{ℕ, ◌+◌, ◌<◌}
use Rattle.fields.proofs.ChoiceLaws.{if_ind}
use Rattle.chain.specs.Tags.{payload_at}

pub payload_near : (id addr tadr : ℕ) {bound : ℕ} → addr < bound → tadr + 16 < bound → payload_at id addr tadr < bound
unfolding payload_at
payload_near id addr tadr {bound} a t = if_ind (λ (n : ℕ). n < bound) _ a t
