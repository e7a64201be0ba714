-- The step from what its parts give.
use Rattle.std.specs.Prelude.{Option, Result, Ok}
use mathlib.Core.Path.{◌≡◌, refl, sym, ap, ◌∙◌}
use mathlib.Core.Bool.{Bool}
use mathlib.Core.List.{List}
use Prim.Native.Nat.{ℕ, ◌+◌}
use native.Mathlib.Omega.{arith}
use Rattle.fields.specs.declared.UnitCounts.{UnitCounts}
use Rattle.fields.specs.declared.refusals.Refusal.{Refusal}
use Rattle.fields.specs.Fields.{if, quadword}
use Rattle.gif.specs.declared.GifPath.TheVariants.{Three}
use Rattle.gif.specs.GifAnswer.{GifAnswer, Refused as GifRefused, gif_answer}
use Rattle.gif.specs.declared.GifResult.{GifResult}
use Rattle.gif.specs.Step.{Left as GifLeft, left as gifLeft, gif_step, take_of as gifTakeOf}
use Rattle.gif.proofs.RangeLaws.{log_fits}
use Rattle.gif.proofs.StepLaws.{tested, step_wrote}
use Rattle.memories.specs.declared.VifUnit.{VifUnit}
use Rattle.memories.specs.Lengths.{Lent, lent}
use Rattle.vif_codes.specs.declared.Incoming.{Incoming}
use Rattle.vif_codes.specs.declared.Taken.{Taken}
use Rattle.vif_codes.specs.declared.Taken.TheVariants.{Word as TakenWord, Quadword as TakenQuadword}
use Rattle.vif_codes.specs.declared.Vif.{Vif}
use Rattle.vif_codes.specs.VifAnswer.{VifAnswer, Word, Quadword, Refused as VifRefused, vif_answer}
use Rattle.vif_codes.specs.Counting.{counts_in}
use Rattle.vif.specs.declared.VifResult.{VifResult}
use Rattle.vif.specs.Step.{Left as VifLeft, left as vifLeft, take_of as vifTakeOf}
use Rattle.vif.proofs.StepLaws.{vif_tested}
use Rattle.vif.proofs.KeepLaws.{step_kept}
use Rattle.chain_state.specs.declared.Payload.{Payload}
use Rattle.chain.specs.StepAnswer.{StateStepped}
use Rattle.chain_state.specs.declared.State.{State}
use Rattle.fields.specs.Memory.{long_at}
use Rattle.chain.specs.Tags.{refused_result}
use Rattle.vif_codes.specs.Words.{incoming_at}
use Rattle.chain.specs.Inner.{Ready, WordInside, PayloadInside, QuadwordReady, by_taken}
use Rattle.chain.specs.Step.{Stepped, refused_step, stepped_by, fed_unit, after_vif, given_vif, vif_took, vif_given, after_gif, given_gif, gif_given, payload_or_tag, pending_or_tag}
use Rattle.chain_state.specs.Setters.{held_by}
use Rattle.chain.proofs.ReadyLaws.{unit_ready, facts_of}

-- an answer by what it is
pub word_as : {a : Result Taken Refusal} {w : Taken} {i : Bool} → a ≡ Ok w → w ≡ TakenWord i → vif_answer a ≡ Word i
word_as e q = rw (e, q) refl

pub quadword_as : {a : Result Taken Refusal} {w : Taken} {i closed : Bool} → a ≡ Ok w → w ≡ TakenQuadword i closed → vif_answer a ≡ Quadword i closed
quadword_as e q = rw (e, q) refl

-- what a step leaves, by what it leaves of the state
pub stepped_as : {x y : StateStepped} → x ≡ y → (m : Lent) {z : Stepped} → stepped_by y m ≡ z → stepped_by x m ≡ z
stepped_as e m h = rw e h

-- what holds at the case that an arm knows holds at the value itself
pub by_vif : {a b : VifAnswer} → a ≡ b → (which : VifUnit) (c : UnitCounts) (o : VifLeft) (t : Option ℕ) (p : ℕ → Payload) (s : State) (m : Lent) {x : Stepped}
    → x ≡ after_vif which b c o t p s m → x ≡ after_vif which a c o t p s m
by_vif q which c o t p s m h = rw q h

pub by_gif : {a b : GifAnswer} → a ≡ b → (o : GifLeft) (p : Payload) (s : State) (m : Lent) {x : Stepped} → x ≡ after_gif b o p s m
    → x ≡ after_gif a o p s m
by_gif q o p s m h = rw q h

pub by_payload : {p q : Payload} → p ≡ q → (main : List ℕ) (s : State) (m : Lent) {x : Stepped} → x ≡ payload_or_tag q main s m → x ≡ payload_or_tag p main s m
by_payload e main s m h = rw e h

pub by_tags : {t u : Option ℕ} → t ≡ u → (p : Payload) (main : List ℕ) (s : State) (m : Lent) {x : Stepped} → x ≡ pending_or_tag u p main s m
    → x ≡ pending_or_tag t p main s m
by_tags e p main s m h = rw e h

-- only what is pending after one word and after four counts
pub same_pending : (main : List ℕ) (a : ℕ) (t : Option ℕ) (p : ℕ → Payload) (s : State) (m : Lent)
    → vif_given main a t (by_taken (p 1) (p 4)) s m ≡ vif_given main a t p s m
unfolding vif_given if
same_pending main a t p s m = go (vif_took (fed_unit s) main a s m).answer _
  where
    go : (b : VifAnswer) (c : UnitCounts)
        → after_vif (fed_unit s) b c (vif_took (fed_unit s) main a s m) t (by_taken (p 1) (p 4)) s m ≡ after_vif (fed_unit s) b c (vif_took (fed_unit s) main a s m) t p s m
    go (Word i) c = refl
    go (Quadword i closed) c = refl
    go (VifRefused n) c = refl

-- a word that the channel's unit tested
module _ {main : List ℕ} {s : State} {m : Lent} (r : Ready main s m) (a : ℕ) (t : Option ℕ) (p : ℕ → Payload) {n : Incoming} (en : n ≡ incoming_at main a)
    {which : VifUnit} {u : Vif} (ew : which ≡ fed_unit s) (eu : u ≡ held_by which s) (v : VifResult) {m' : Lent}
    (e : vifLeft v m' ≡ vifTakeOf which u s.path2 n s.used m) where
  taken_as : vifLeft v m' ≡ vif_took (fed_unit s) main a s m
  taken_as =
      rw (en, eu, ew) at e ∙ vif_tested (fed_unit s) (held_by (fed_unit s) s) s.path2 (incoming_at main a) s.used m (unit_ready r)

  -- c is what the step counts for
  pub vif_gave : {c : UnitCounts} → c ≡ counts_in u.waiting n (vif_answer v.answer) → {x : Stepped} → x ≡ after_vif which (vif_answer v.answer) c (vifLeft v m') t p s m
      → x ≡ vif_given main a t p s m
  unfolding vif_given
  vif_gave ec h = h ∙ rw (ec, eu, en, ew) (ap (λ (o : VifLeft). given_vif (fed_unit s) (incoming_at main a) o t p s m) taken_as)

  -- a refused word left the memories as they were
  pub vif_same : {k : ℕ} → vif_answer v.answer ≡ VifRefused k → m' ≡ m
  vif_same {k} q =
      let w = step_kept (fed_unit s) (held_by (fed_unit s) s) s.path2 s.used m (log_fits m.log s.used (unit_ready r).fit.logged).holds (incoming_at main a) in
      ap (λ (o : VifLeft). o.memories) (taken_as ∙ w.same k (ap (λ (o : VifLeft). o.answer) (sym taken_as) ∙ q))

  -- and the step is refused
  pub vif_refuses : {k : ℕ} → vif_answer v.answer ≡ VifRefused k → {x : StateStepped} → x ≡ refused_result k s → stepped_by x m' ≡ vif_given main a t p s m
  vif_refuses {k} q er = vif_gave refl (by_vif q which _ (vifLeft v m') t p s m (rw er (ap (λ (x : Lent). refused_step k s x) (vif_same q))))

-- a quadword that the GIF tested
module _ {main : List ℕ} {s : State} {log : List ℕ} {a : ℕ} (r : QuadwordReady main a s log) (p : Payload) (mem code : List ℕ) {x y : ℕ} (ex : x ≡ long_at main a)
    (ey : y ≡ long_at main (a + 8)) (v : GifResult) {l : List ℕ} (e : gifLeft v l ≡ gifTakeOf Three s.path3 (quadword x y) s.used log) where
  given_as : gifLeft v l ≡ gif_step Three s.path3 (quadword (long_at main a) (long_at main (a + 8))) s.used log
  given_as =
      rw (ex, ey) at e ∙ tested Three s.path3 (quadword (long_at main a) (long_at main (a + 8))) s.used log r.logged r.ranged

  pub gif_gave : {z : Stepped} → z ≡ given_gif (gifLeft v l) p s (lent mem code log) → z ≡ gif_given main a p s (lent mem code log)
  unfolding gif_given
  gif_gave h = h ∙ ap (λ (o : GifLeft). given_gif o p s (lent mem code log)) given_as

  pub gif_same : {k : ℕ} → gif_answer v.answer ≡ GifRefused k → l ≡ log
  gif_same {k} q =
      let w = step_wrote Three s.path3 s.used log (log_fits log s.used r.logged).holds (quadword (long_at main a) (long_at main (a + 8))) in
      ap (λ (o : GifLeft). o.log) (given_as ∙ w.same k (ap (λ (o : GifLeft). o.answer) (sym given_as) ∙ q))

-- a pending quadword on channel 2
pub quadword_ready : {main : List ℕ} {s : State} {m : Lent} {at n : ℕ} → Ready main s m → PayloadInside main s at n → s.channel ≡ 2
    → QuadwordReady main at s m.log
quadword_ready {main} {s} {m} {at} {n} r p c =
    let f = facts_of r in
    let i = p.inside in
    let w = p.whole in
    let q = p.quadwords c in
    let k = p.some in
    record { inside = omega arith; most = p.most; logged = f.fit.logged; ranged = f.fields.path3 }

-- a pending word and what follows it in its quadword
pub word_inside : {main : List ℕ} {s : State} {at n : ℕ} → PayloadInside main s at n → WordInside main at
word_inside p =
    let i = p.inside in
    let w = p.whole in
    let a = p.aligned in
    let k = p.some in
    record { inside = omega arith; most = p.most }
