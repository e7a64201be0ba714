-- What is pending: document 01's "Pending means words of the last tag's payload, or its two transferred tag words, not yet taken; they are read from main
-- memory when taken."
use Rattle.std.specs.Prelude.{ℕ, ◌+◌, ◌*◌, ◌-◌, ◌/◌, ◌%◌, Bool, true, false, ◌&&◌, eqb, leb, None, Option, Some}
use Rattle.fields.specs.Fields.{if}
use Rattle.chain_state.specs.declared.Payload.{Payload}
use Rattle.chain_state.specs.declared.Payload.TheVariants.{Nothing as NoPayload, Words}
use Rattle.chain_state.specs.declared.State.{State}

abbrev pub no_tags : Option ℕ → Bool
no_tags None = true
no_tags (Some a) = false

-- a count of 0 is nothing pending, whatever the address
abbrev pub no_payload : Payload → Bool
no_payload NoPayload = true
no_payload (Words at n) = eqb n 0

-- the payload words pending
abbrev pub payload_pending : Payload → ℕ
payload_pending NoPayload = 0
payload_pending (Words at n) = n

abbrev pub nothing_pending : State → Bool
nothing_pending s = no_tags s.tags && no_payload s.payload

-- after a tag word: word 3 is the last
unfoldable pub tags_after : ℕ → Option ℕ
tags_after a = if (eqb (a / 4 % 4) 3) None (Some (a + 4))

-- after k words of the payload
unfoldable pub payload_after : ℕ → ℕ → ℕ → Payload
payload_after at n k = if (leb n k) NoPayload (Words (at + 4 * k) (n - k))
