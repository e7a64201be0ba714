-- Parts that are not asked for are not looked at: other lists in them, of any length, change nothing of the answer.
use mathlib.Core.Path.{◌≡◌, refl, sym, ◌∙◌}
use mathlib.Core.Bool.{Bool, true, false, ◌&&◌}
use mathlib.Core.List.{List}
use Prim.Native.Nat.{ℕ}
use Rattle.fields.specs.Fields.{if}
use Rattle.gif.specs.Log.{entry_size}
use Rattle.memories.specs.declared.VifUnit.{VifUnit}
use Rattle.memories.specs.declared.VifUnit.TheVariants.{Vif0, Vif1}
use Rattle.memories.specs.Units.{quadwords, instructions}
use Rattle.compare.specs.Elements.{found_in}
use Rattle.compare.specs.Parts.{data_part, code_part, log_part, asks, looked_at}
use Rattle.compare.specs.Boards.{Board, memories_of, data_refused, code_refused, logs_refused, refusal, compare_of}
use Rattle.compare.specs.Boards.{smaller, unit_found, entries_asked, comparison_of}
use Rattle.compare.specs.Equal.{Alike}
use Rattle.compare.proofs.CompareLaws.{smaller_same}
use Rattle.compare.proofs.Verdict.{none_found}

-- ---- one part

test_alike : (asked : Bool) {s t : Bool} → (asked ≡ true → s ≡ t) → (asked && s) ≡ (asked && t)
test_alike true h = h refl
test_alike false h = refl

count_alike : (asked : Bool) {m n : ℕ} → (asked ≡ true → m ≡ n) → looked_at asked m ≡ looked_at asked n
unfolding looked_at if
count_alike true h = h refl
count_alike false h = refl

found_alike : (asked : Bool) (size : ℕ) {n : ℕ} {x y x' y' : List ℕ} → (asked ≡ false → n ≡ 0) → (asked ≡ true → x ≡ x') → (asked ≡ true → y ≡ y')
    → found_in size x y n ≡ found_in size x' y' n
found_alike true size z p q = rw (p refl, q refl)
found_alike false size {n} {x} {y} {x'} {y'} z p q = rw (z refl) (none_found size x y ∙ sym (none_found size x' y'))

none_looked_at : (asked : Bool) (n : ℕ) → asked ≡ false → looked_at asked n ≡ 0
unfolding looked_at if
none_looked_at asked n h = rw h

-- ---- all parts

module _ (parts : ℕ) (a b a' b' : Board) (v : Alike parts a a') (w : Alike parts b b') where
  data_alike : (u : VifUnit) → data_refused parts u (memories_of u a).mem (memories_of u b).mem ≡ data_refused parts u (memories_of u a').mem (memories_of u b').mem
  unfolding data_refused
  data_alike u = test_alike (asks parts (data_part u)) (λ t. rw (v.mem u t, w.mem u t))

  code_alike : (u : VifUnit)
      → code_refused parts u (memories_of u a).code (memories_of u b).code ≡ code_refused parts u (memories_of u a').code (memories_of u b').code
  unfolding code_refused
  code_alike u = test_alike (asks parts (code_part u)) (λ t. rw (v.code u t, w.code u t))

  logs_alike : logs_refused parts a.log a.used b.log b.used ≡ logs_refused parts a'.log a'.used b'.log b'.used
  unfolding logs_refused
  logs_alike = test_alike (asks parts log_part) (λ t. rw ((v.log t).0, (v.log t).1, (w.log t).0, (w.log t).1))

  refusal_alike : refusal parts a b ≡ refusal parts a' b'
  unfolding refusal
  refusal_alike = rw (data_alike Vif1, data_alike Vif0, code_alike Vif1, code_alike Vif0, logs_alike)

  unit_alike : (u : VifUnit) → unit_found parts u (memories_of u a) (memories_of u b) ≡ unit_found parts u (memories_of u a') (memories_of u b')
  unfolding unit_found
  unit_alike u =
      let q = found_alike (asks parts (data_part u)) 4 (none_looked_at (asks parts (data_part u)) (quadwords u)) (v.mem u) (w.mem u) in
      let i = found_alike (asks parts (code_part u)) 8 (none_looked_at (asks parts (code_part u)) (instructions u)) (v.code u) (w.code u) in
      rw (q, i)

  used_alike : (entries_asked parts a ≡ entries_asked parts a') × (entries_asked parts b ≡ entries_asked parts b')
  used_alike = (count_alike (asks parts log_part) (λ t. (v.log t).1), count_alike (asks parts log_part) (λ t. (w.log t).1))

  entries_alike : found_in entry_size a.log b.log (smaller (entries_asked parts a') (entries_asked parts b'))
      ≡ found_in entry_size a'.log b'.log (smaller (entries_asked parts a') (entries_asked parts b'))
  entries_alike =
      found_alike (asks parts log_part) entry_size
      (λ f. rw (none_looked_at (asks parts log_part) a'.used f, none_looked_at (asks parts log_part) b'.used f, smaller_same 0))
      (λ t. (v.log t).0) (λ t. (w.log t).0)

  comparison_alike : comparison_of parts a b ≡ comparison_of parts a' b'
  unfolding comparison_of
  comparison_alike = rw (unit_alike Vif1, unit_alike Vif0, used_alike.0, used_alike.1, entries_alike)

  pub unasked_unseen : compare_of parts a b ≡ compare_of parts a' b'
  unfolding compare_of
  unasked_unseen = rw (refusal_alike, comparison_alike)
