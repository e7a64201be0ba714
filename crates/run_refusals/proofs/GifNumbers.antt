-- A quadword given to the GIF is refused with 30 or 31 and with no other number.
use Rattle.std.specs.Prelude.{None, Option, Some}
use mathlib.Core.Path.{◌≡◌}
use mathlib.Core.Bool.{Bool}
use mathlib.Core.List.{List}
use Prim.Native.Nat.{ℕ}
use Rattle.fields.proofs.ChoiceLaws.{if_ind}
use Rattle.gif.specs.declared.GifPath.{GifPath}
use Rattle.gif.specs.declared.Write.{Write}
use Rattle.gif.specs.declared.TagFormat.{TagFormat}
use Rattle.gif.specs.declared.TagFormat.TheVariants.{Packed, Reglist, Image}
use Rattle.gif.specs.declared.HeldTag.{HeldTag}
use Rattle.gif.specs.declared.Path.{Path}
use Rattle.gif.specs.GifAnswer.{GifAnswer, Taken, Refused}
use Rattle.gif.specs.Tag.{taken_of, descriptor_at}
use Rattle.gif.specs.Step.{Left, commit, tag_step, packed_with, reglist_step, image_step, data_step, step_at, gif_step}
use Rattle.run_refusals.specs.Numbers.{GifNumber, descriptor_30, log_31}

pub data GifTold : GifAnswer → Type 0 where
  gif_taken : {closed : Bool} → GifTold (Taken closed)
  gif_refusal : {n : ℕ} → GifNumber n → GifTold (Refused n)

commit_told : (which : GifPath) (p after : Path) (closed : Bool) (ws : List Write) (used : ℕ) (log : List ℕ)
    → GifTold (commit which p after closed ws used log).answer
unfolding commit
commit_told which p after closed ws used log = if_ind (λ (l : Left). GifTold l.answer) _ (gif_refusal log_31) gif_taken

tag_told : (which : GifPath) (p : Path) (quad used : ℕ) (log : List ℕ) → GifTold (tag_step which p quad used log).answer
unfolding tag_step
tag_told which p quad used log = commit_told _ _ _ _ _ _ _

packed_told : (which : GifPath) (d : ℕ) (p : Path) (t : HeldTag) (quad used : ℕ) (log : List ℕ)
    → GifTold (packed_with which d p t quad used log).answer
unfolding packed_with
packed_told which d p t quad used log =
    if_ind (λ (l : Left). GifTold l.answer) _ (gif_refusal descriptor_30) (commit_told _ _ _ _ _ _ _)

reglist_told : (which : GifPath) (p : Path) (t : HeldTag) (quad used : ℕ) (log : List ℕ) → GifTold (reglist_step which p t quad used log).answer
unfolding reglist_step
reglist_told which p t quad used log =
    if_ind (λ (l : Left). GifTold l.answer) _ (gif_refusal descriptor_30) (commit_told _ _ _ _ _ _ _)

image_told : (which : GifPath) (p : Path) (t : HeldTag) (quad used : ℕ) (log : List ℕ) → GifTold (image_step which p t quad used log).answer
unfolding image_step
image_told which p t quad used log = commit_told _ _ _ _ _ _ _

data_told : (f : TagFormat) (which : GifPath) (p : Path) (t : HeldTag) (quad used : ℕ) (log : List ℕ)
    → GifTold (data_step f which p t quad used log).answer
data_told Packed which p t quad used log = packed_told which (descriptor_at t (taken_of t)) p t quad used log
data_told Reglist which p t quad used log = reglist_told which p t quad used log
data_told Image which p t quad used log = image_told which p t quad used log

place_told : (at : Option HeldTag) (which : GifPath) (p : Path) (quad used : ℕ) (log : List ℕ) → GifTold (step_at at which p quad used log).answer
place_told None which p quad used log = tag_told which p quad used log
place_told (Some t) which p quad used log = data_told t.format which p t quad used log

pub gif_told : (which : GifPath) (p : Path) (quad used : ℕ) (log : List ℕ) → GifTold (gif_step which p quad used log).answer
unfolding gif_step
gif_told which p quad used log = place_told p.place which p quad used log

gif_number : {n : ℕ} → GifTold (Refused n) → GifNumber n
gif_number (gif_refusal s) = s

pub gif_refused : (which : GifPath) (p : Path) (quad used : ℕ) (log : List ℕ) {n : ℕ} → (gif_step which p quad used log).answer ≡ Refused n → GifNumber n
gif_refused which p quad used log h = let t = gif_told which p quad used log in gif_number (rw h at t)
