-- Matching as an action on a matcher: that it goes on from record to record, and what its room says.
use Rattle.std.specs.Prelude.{ℕ, ◌≡◌, List, [], ◌∷◌, ◌++◌, length, refl}
use Rattle.std.proofs.Common.{◌∙◌}
use Rattle.gif.proofs.RangeLaws.{log_fits}
use Rattle.memories.specs.declared.VifUnit.TheVariants.{Vif1}
use Rattle.memories.specs.Lengths.{lent}
use Rattle.memories.proofs.LengthLaws.{lengths_fit}
use Rattle.sheet.specs.Records.{Record}
use Rattle.sheet.proofs.MeaningLaws.{mem_kept, code_kept}
use Rattle.sheet_meaning.specs.declared.matching.Matcher.{Matcher}
use Rattle.sheet_meaning.specs.Met.{Matching, matching_in, with_matching, matched_by, matched_all, MatchRoom, match_refusal}

module _ (log : List ℕ) (used : ℕ) where
  record Kept (x y : Matching) : Type 0 where
    words : length y.mem ≡ length x.mem
    bytes : length y.code ≡ length x.code

  match_kept : (rs : List Record) (x : Matching) → Kept x (matched_all log used rs x)
  unfolding matched_all matched_by
  match_kept [] x = record { words = refl; bytes = refl }
  match_kept (r ∷ rs) x =
      let k = match_kept rs (matched_by log used r x) in
      record {
        words = k.words ∙ mem_kept r.kind r.count r.address r.body x.mem;
        bytes = k.bytes ∙ code_kept r.kind r.count r.address r.body x.code;
      }

  pub match_none : (x : Matching) → matched_all log used [] x ≡ x
  unfolding matched_all
  match_none x = refl

  pub match_onward : (rs ss : List Record) (x : Matching) → matched_all log used ss (matched_all log used rs x) ≡ matched_all log used (rs ++ ss) x
  unfolding matched_all
  match_onward [] ss x = refl
  match_onward (r ∷ rs) ss x = match_onward rs ss (matched_by log used r x)

  pub match_before : (rs ss : List Record) (x : Matching) → MatchRoom log used (rs ++ ss) x → MatchRoom log used rs x
  match_before rs ss x h = record { words = h.words; bytes = h.bytes; held = h.held }

  pub match_behind : (rs ss : List Record) (x : Matching) → MatchRoom log used (rs ++ ss) x → MatchRoom log used ss (matched_all log used rs x)
  match_behind rs ss x h =
      let k = match_kept rs x in
      record { words = k.words ∙ h.words; bytes = k.bytes ∙ h.bytes; held = h.held }

  -- what its test takes has room
  pub match_room : (rs : List Record) (x : Matching) → match_refusal log used x ≡ 0 → MatchRoom log used rs x
  match_room rs x h =
      let f = lengths_fit Vif1 (lent x.mem x.code log) used h in
      record { words = f.long; bytes = f.wide; held = (log_fits log used f.logged).holds }

pub match_nothing : (m : Matcher) → with_matching m (matched_all m.log.numbers.now m.log.used [] (matching_in m)) ≡ m
match_nothing m = rw match_none

pub match_on : (rs ss : List Record) (m : Matcher)
    → with_matching m (matched_all m.log.numbers.now m.log.used ss (matched_all m.log.numbers.now m.log.used rs (matching_in m)))
    ≡ with_matching m (matched_all m.log.numbers.now m.log.used (rs ++ ss) (matching_in m))
match_on rs ss m = rw match_onward
