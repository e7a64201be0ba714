-- The sentences of request 8, for every sheet.
use mathlib.Core.Path.{◌≡◌, refl, sym, ◌∙◌}
use mathlib.Core.Bool.{false}
use mathlib.Core.List.{List, [], ◌∷◌, ◌++◌, append_assoc}
use Prim.Native.Nat.{ℕ, suc, ◌+◌, ◌-◌, ◌<◌, ◌≤◌}
use native.Mathlib.Omega.{arith}
use lib.ListN.{length, drop, length-append, take-append-drop, drop_of_length-le}
use lib.Seq.{take-add, drop-drop, drop-cons}
use Rattle.sheet.specs.declared.Kind.{Kind}
use Rattle.sheet.specs.BuildAnswer.{Built}
use Rattle.sheet.specs.Reading.{Reading, End, Found, Refused}
use Rattle.sheet.specs.Records.{Record, longest, bytes_at}
use Rattle.sheet.specs.Reader.{valid, reading_at, contents_from}
use Rattle.sheet.specs.Groups.{starts_second}
use Rattle.sheet.specs.Editions.{contents_of}
use Rattle.sheet.specs.Whole.{AllMeet, Bytes, none as none-meets, more as meets-more}
use Rattle.sheet.specs.Layout.{chain_of}
use Rattle.sheet.specs.Build.{left as built, stored, build_of}
use Rattle.sheet.proofs.ReaderLaws.{found_next, reading_end}
use Rattle.sheet.proofs.RestLaws.{record_at, rest_end, rest_never, rest_found}
use Rattle.sheet.proofs.WholeLaws.{found_bytes, found_meets}
use Rattle.sheet.proofs.EditionLaws.{from_start, reader_loses_nothing}
use Rattle.sheet.proofs.AcceptLaws.{records_first, reader_takes_all, sheet_accepted}
use Rattle.salvage.specs.Salvage.{Piece, pieces_from, pieces_of, records_in, kept_bytes, Range, range, dropped_ranges}
use Rattle.salvage.specs.Claims.{piece_bytes, bytes_of, outside, ComesTo, start, after_record, after_byte, KeptAt, Apart, none, last, more}
use Rattle.salvage.specs.Inner.{kept_from, dropped_from, range_end}
use Rattle.salvage.proofs.PieceLaws.{along, refused_inside, pieces_end, pieces_found, pieces_refused, found_length, kept_end, kept_found, kept_refused}
use Rattle.salvage.proofs.RangeLaws.{Past, first, ranges_past, ranges_end, ranges_found, range_dropped, range_kept, range_inside, range_stops}
use Rattle.salvage.proofs.LoopLaws.{found_more}

-- ---- "The result is a sheet the builder doesn't refuse with 40 to 46."

module _ (sheet : List ℕ) (b : Bytes sheet) where
  all_meet : (at : ℕ) → AllMeet (records_in (pieces_from sheet at))
  unfolding records_in
  all_meet =
      along sheet (λ (at : ℕ). AllMeet (records_in (pieces_from sheet at)))
      (λ at e. rw (pieces_end sheet at e) none-meets)
      (λ at k n a next e i. rw (pieces_found sheet at e) (meets-more (found_meets sheet at (found_next sheet at k n a next e)) i))
      (λ at n offset e i. rw (pieces_refused sheet at e) (i (at + 1) (omega arith)))

  no_longer : (at : ℕ) → at ≤ length sheet → at + length (kept_from sheet at) ≤ length sheet
  no_longer =
      along sheet (λ (at : ℕ). at ≤ length sheet → at + length (kept_from sheet at) ≤ length sheet)
      (λ at e h. rw (kept_end sheet at refl e) (omega arith))
      (λ at k n a next e i h.
      let f = found_next sheet at k n a next e in
      let o = i f.inside in
      let m = found_more sheet at refl e b in
      omega arith)
      (λ at n offset e i h.
      let p = refused_inside sheet at e in
      let o = i (at + 1) (omega arith) (omega arith) in
      rw (kept_refused sheet at refl e) (omega arith))

  pub kept_few : length (kept_bytes sheet) ≤ length sheet
  kept_few = let h = no_longer 0 (omega arith) in omega arith

  module _ (h : length sheet ≤ longest) where
    pub result_valid : contents_of (kept_bytes sheet) ≡ valid (records_in (pieces_of sheet))
    result_valid = let f = kept_few in reader_takes_all (records_in (pieces_of sheet)) (all_meet 0) (omega arith)

    -- a sheet of the first edition
    pub result_first : starts_second (kept_bytes sheet) ≡ false
    result_first = records_first (records_in (pieces_of sheet))

    -- and it is built wherever the chain has room
    pub result_built : (output : List ℕ) → length (chain_of (records_in (pieces_of sheet))) ≤ length output
        → build_of (kept_bytes sheet) output
        ≡ built (Built (length (chain_of (records_in (pieces_of sheet))))) (stored (chain_of (records_in (pieces_of sheet))) output)
    result_built output r = let f = kept_few in sheet_accepted (records_in (pieces_of sheet)) output (all_meet 0) (omega arith) r

-- ---- "A valid sheet comes back unchanged with no range."; request 12: "Salvage, with its claim on valid sheets, keeps to the first edition"

module _ (sheet : List ℕ) where
  all_kept : (at : ℕ) (rs : List Record) → contents_from sheet at ≡ valid rs → (records_in (pieces_from sheet at) ≡ rs) × (dropped_from sheet at ≡ [])
  unfolding records_in
  all_kept =
      along sheet (λ (at : ℕ). (rs : List Record) → contents_from sheet at ≡ valid rs → (records_in (pieces_from sheet at) ≡ rs) × (dropped_from sheet at ≡ []))
      (λ at e rs v. (rw (pieces_end sheet at e) (sym (rest_end sheet at refl v e)), ranges_end sheet at e))
      (λ at k n a next e i rs v.
      let r = rest_found sheet at refl v e in
      let o = i r.others r.are in
      (rw (pieces_found sheet at e, o.0) (sym r.whole), ranges_found sheet at e ∙ o.1))
      (λ at n offset e i rs v. absurd (rest_never sheet at refl v e))

  pub valid_unchanged : (rs : List Record) → Bytes sheet → starts_second sheet ≡ false → contents_of sheet ≡ valid rs → (kept_bytes sheet ≡ sheet) × (dropped_ranges sheet ≡ [])
  valid_unchanged rs b s v =
      let k = all_kept 0 rs (from_start sheet rs s v) in
      (rw k.0 (sym (reader_loses_nothing sheet rs b s v).0), k.1)

-- ---- "Kept and dropped bytes together are the input."

module _ (sheet : List ℕ) (b : Bytes sheet) where
  all_bytes : (at : ℕ) → bytes_of (pieces_from sheet at) ≡ drop at sheet
  unfolding bytes_of
  all_bytes =
      along sheet (λ (at : ℕ). bytes_of (pieces_from sheet at) ≡ drop at sheet)
      (λ at e. rw (pieces_end sheet at e) (sym (drop_of_length-le sheet (reading_end sheet at e))))
      (λ at k n a next e i. rw (pieces_found sheet at e, i) (sym (found_bytes sheet b at (found_next sheet at k n a next e))))
      (λ at n offset e i.
      let s : at + 1 ≡ suc at = omega arith in
      rw (pieces_refused sheet at e, i (at + 1) (omega arith), s) (sym (drop-cons sheet at 0 (refused_inside sheet at e))))

  pub nothing_lost : bytes_of (pieces_of sheet) ≡ sheet
  nothing_lost = all_bytes 0

  -- a part before ranges that start after it
  part_before : (at next : ℕ) (rs : List Range) → at ≤ next → Past next rs → outside sheet at rs ≡ bytes_at sheet at (next - at) ++ outside sheet next rs
  unfolding outside
  part_before at next [] h p =
      let s : at + (next - at) ≡ next = omega arith in
      sym (take-append-drop (next - at) (drop at sheet)) ∙ rw (drop-drop, s)
  part_before at next (r ∷ rs) h (first p) =
      let s : at + (next - at) ≡ next = omega arith in
      let q : r.offset - at ≡ next - at + (r.offset - next) = omega arith in
      rw (q, take-add (next - at) (r.offset - next) (drop at sheet), drop-drop, s, append_assoc)

  all_outside : (at : ℕ) → kept_from sheet at ≡ outside sheet at (dropped_from sheet at)
  unfolding outside
  all_outside =
      along sheet (λ (at : ℕ). kept_from sheet at ≡ outside sheet at (dropped_from sheet at))
      (λ at e. rw (kept_end sheet at refl e, ranges_end sheet at e) (sym (drop_of_length-le sheet (reading_end sheet at e))))
      (λ at k n a next e i.
      let f = found_next sheet at k n a next e in
      kept_found sheet at refl b e
      ∙ rw (i, ranges_found sheet at e) (sym (part_before at next (dropped_from sheet next) (omega arith) (ranges_past next (pieces_from sheet next)))))
      (λ at n offset e i.
      let p = range_inside sheet at e in
      let z : at - at ≡ 0 = omega arith in
      let s : at + (range_end sheet (at + 1) - at) ≡ range_end sheet (at + 1) = omega arith in
      range_kept sheet at e ∙ i (range_end sheet (at + 1)) p.0 ∙ rw (range_dropped sheet at e, z, s))

  -- the kept bytes are those in no range
  pub kept_outside : kept_bytes sheet ≡ outside sheet 0 (dropped_ranges sheet)
  kept_outside = all_outside 0

-- ---- "A whole valid record that the reading comes to inside a broken one's body is kept."

-- the pieces before a place that the reading comes to
record Come (sheet : List ℕ) (at : ℕ) : Type 0 where
  earlier : List Piece
  pieces : pieces_of sheet ≡ earlier ++ pieces_from sheet at
  place : length (bytes_of earlier) ≡ at

bytes_then : (ps : List Piece) (p : Piece) → length (bytes_of (ps ++ p ∷ [])) ≡ length (bytes_of ps) + length (piece_bytes p)
unfolding bytes_of
bytes_then [] p = rw length-append (omega arith)
bytes_then (q ∷ ps) p = let h = bytes_then ps p in rw (length-append (piece_bytes q) (bytes_of (ps ++ p ∷ [])), length-append (piece_bytes q) (bytes_of ps)) (omega arith)

module _ (sheet : List ℕ) where
  next_piece : {at next : ℕ} {p : Piece} → Come sheet at → pieces_from sheet at ≡ p ∷ pieces_from sheet next → at + length (piece_bytes p) ≡ next → Come sheet next
  next_piece {p = p} c e n =
      record {
        earlier = c.earlier ++ p ∷ [];
        pieces = c.pieces ∙ rw (e, append_assoc);
        place = bytes_then c.earlier p ∙ rw c.place n;
      }

  comes : {at : ℕ} → ComesTo sheet at → Come sheet at
  unfolding bytes_of
  comes start = record { earlier = []; pieces = refl; place = refl }
  comes (after_record {at} c h) = next_piece (comes c) (pieces_found sheet at h) (found_length sheet at h)
  comes (after_byte {at} c h) = next_piece (comes c) (pieces_refused sheet at h) refl

  pub record_kept : {at n a next : ℕ} {k : Kind} → ComesTo sheet at → reading_at sheet at ≡ Found k n a next → KeptAt sheet at (record_at sheet at k n a)
  record_kept {at} {next = next} c h =
      let d = comes c in
      record { earlier = d.earlier; later = pieces_from sheet next; pieces = d.pieces ∙ rw (pieces_found sheet at h); place = d.place }

-- ---- "joined where they touch, in order"

module _ (sheet : List ℕ) where
  sooner : {at from : ℕ} {rs : List Range} → at ≤ from → Apart sheet from rs → Apart sheet at rs
  sooner h none = none
  sooner {at} h (last {r = r} p s e) = last {from = at} {r = r} (omega arith) s e
  sooner {at} h (more {r = r} p s e a) = more {from = at} {r = r} (omega arith) s e a

  -- a range, and the ranges after the record at which it ends
  range_apart : (at : ℕ) (x : Reading) {n offset : ℕ} → reading_at sheet at ≡ Refused n offset → reading_at sheet (range_end sheet (at + 1)) ≡ x
      → ((next : ℕ) → at < next → Apart sheet next (dropped_from sheet next))
      → Apart sheet at (dropped_from sheet at)
  range_apart at End e q i =
      let p = range_inside sheet at e in
      let h = reading_end sheet (range_end sheet (at + 1)) q in
      rw (range_dropped sheet at e, ranges_end sheet (range_end sheet (at + 1)) q)
      (last {from = at} {r = range at (range_end sheet (at + 1) - at)} (omega arith) (omega arith) (omega arith))
  range_apart at (Found k n a next) e q i =
      let p = range_inside sheet at e in
      let f = found_next sheet (range_end sheet (at + 1)) k n a next q in
      let s : at + (range_end sheet (at + 1) - at) ≡ range_end sheet (at + 1) = omega arith in
      let w : reading_at sheet (at + (range_end sheet (at + 1) - at)) ≡ Found k n a next = rw s q in
      rw (range_dropped sheet at e, ranges_found sheet (range_end sheet (at + 1)) q)
      (more {from = at} {r = range at (range_end sheet (at + 1) - at)} (omega arith) (omega arith) w (i next (omega arith)))
  range_apart at (Refused n offset) e q i = absurd (range_stops sheet (at + 1) n offset q)

  all_apart : (at : ℕ) → Apart sheet at (dropped_from sheet at)
  all_apart =
      along sheet (λ (at : ℕ). Apart sheet at (dropped_from sheet at))
      (λ at e. rw (ranges_end sheet at e) none)
      (λ at k n a next e i. let f = found_next sheet at k n a next e in rw (ranges_found sheet at e) (sooner (omega arith) i))
      (λ at n offset e i. range_apart at (reading_at sheet (range_end sheet (at + 1))) e refl i)

  pub ranges_apart : Apart sheet 0 (dropped_ranges sheet)
  ranges_apart = all_apart 0
