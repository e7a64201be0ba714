-- The refusals' numbers: none is 0, all have two digits at most, and no two are the same.
use Rattle.std.proofs.Common.{ℕ, ◌≡◌, false, ◌<◌, eqb, refl, sym, ap, ◌∙◌, arith, ne_eqb}
use Rattle.fields.specs.declared.refusals.Refusal.{Refusal}
use Rattle.fields.specs.declared.refusals.Refusal.TheVariants.{MainLength, DataLength, CodeLength, LogLength, OutOfRange, TadrOutside, AddrUnaligned, ScratchpadSet, StackFull, PayloadOutside, CmdUnlisted, FormatMissing, CycleWrong, ModeWrong, DirectUnaligned, MpgUnaligned, TopsMissing, DescriptorB, LogFull, MarkWrong, KindWrong, CountWrong, AddressWrong, RecordCut, PadWrong, SheetLong, OutputShort, ChainLong, NumberMissing, CodeWaits, GroupDeep, TotalFull, KeptExceed, RangesExceed}
use Rattle.fields.specs.Fields.{if}
use Rattle.fields.specs.Refusals.{refusal_number}

-- between 1 and 99
pub refusal_small : (e : Refusal) → (0 < refusal_number e) × (refusal_number e < 100)
refusal_small MainLength = (omega arith, omega arith)
refusal_small DataLength = (omega arith, omega arith)
refusal_small CodeLength = (omega arith, omega arith)
refusal_small LogLength = (omega arith, omega arith)
refusal_small OutOfRange = (omega arith, omega arith)
refusal_small TadrOutside = (omega arith, omega arith)
refusal_small AddrUnaligned = (omega arith, omega arith)
refusal_small ScratchpadSet = (omega arith, omega arith)
refusal_small StackFull = (omega arith, omega arith)
refusal_small PayloadOutside = (omega arith, omega arith)
refusal_small CmdUnlisted = (omega arith, omega arith)
refusal_small FormatMissing = (omega arith, omega arith)
refusal_small CycleWrong = (omega arith, omega arith)
refusal_small ModeWrong = (omega arith, omega arith)
refusal_small DirectUnaligned = (omega arith, omega arith)
refusal_small MpgUnaligned = (omega arith, omega arith)
refusal_small TopsMissing = (omega arith, omega arith)
refusal_small DescriptorB = (omega arith, omega arith)
refusal_small LogFull = (omega arith, omega arith)
refusal_small MarkWrong = (omega arith, omega arith)
refusal_small KindWrong = (omega arith, omega arith)
refusal_small CountWrong = (omega arith, omega arith)
refusal_small AddressWrong = (omega arith, omega arith)
refusal_small RecordCut = (omega arith, omega arith)
refusal_small PadWrong = (omega arith, omega arith)
refusal_small SheetLong = (omega arith, omega arith)
refusal_small OutputShort = (omega arith, omega arith)
refusal_small ChainLong = (omega arith, omega arith)
refusal_small NumberMissing = (omega arith, omega arith)
refusal_small CodeWaits = (omega arith, omega arith)
refusal_small GroupDeep = (omega arith, omega arith)
refusal_small TotalFull = (omega arith, omega arith)
refusal_small KeptExceed = (omega arith, omega arith)
refusal_small RangesExceed = (omega arith, omega arith)

-- a refusal's number is not that of none
pub refusal_not_none : (e : Refusal) → eqb (refusal_number e) 0 ≡ false
refusal_not_none e = let h = refusal_small e in ne_eqb (refusal_number e) 0 (λ q. omega arith)

-- the refusal of a number
abbrev numbered : ℕ → Refusal
numbered n =
    if (eqb n 1) MainLength
    (if (eqb n 2) DataLength
    (if (eqb n 3) CodeLength
    (if (eqb n 4) LogLength
    (if (eqb n 5) OutOfRange
    (if (eqb n 10) TadrOutside
    (if (eqb n 11) AddrUnaligned
    (if (eqb n 12) ScratchpadSet
    (if (eqb n 13) StackFull
    (if (eqb n 14) PayloadOutside
    (if (eqb n 20) CmdUnlisted
    (if (eqb n 21) FormatMissing
    (if (eqb n 22) CycleWrong
    (if (eqb n 23) ModeWrong
    (if (eqb n 24) DirectUnaligned
    (if (eqb n 25) MpgUnaligned
    (if (eqb n 26) TopsMissing
    (if (eqb n 30) DescriptorB
    (if (eqb n 31) LogFull
    (if (eqb n 40) MarkWrong
    (if (eqb n 41) KindWrong
    (if (eqb n 42) CountWrong
    (if (eqb n 43) AddressWrong
    (if (eqb n 44) RecordCut
    (if (eqb n 45) PadWrong
    (if (eqb n 46) SheetLong
    (if (eqb n 47) OutputShort
    (if (eqb n 49) ChainLong
    (if (eqb n 50) NumberMissing
    (if (eqb n 51) CodeWaits
    (if (eqb n 52) GroupDeep
    (if (eqb n 54) TotalFull
    (if (eqb n 55) KeptExceed
    RangesExceed))))))))))))))))))))))))))))))))

numbered-number : (e : Refusal) → numbered (refusal_number e) ≡ e
unfolding if
numbered-number MainLength = refl
numbered-number DataLength = refl
numbered-number CodeLength = refl
numbered-number LogLength = refl
numbered-number OutOfRange = refl
numbered-number TadrOutside = refl
numbered-number AddrUnaligned = refl
numbered-number ScratchpadSet = refl
numbered-number StackFull = refl
numbered-number PayloadOutside = refl
numbered-number CmdUnlisted = refl
numbered-number FormatMissing = refl
numbered-number CycleWrong = refl
numbered-number ModeWrong = refl
numbered-number DirectUnaligned = refl
numbered-number MpgUnaligned = refl
numbered-number TopsMissing = refl
numbered-number DescriptorB = refl
numbered-number LogFull = refl
numbered-number MarkWrong = refl
numbered-number KindWrong = refl
numbered-number CountWrong = refl
numbered-number AddressWrong = refl
numbered-number RecordCut = refl
numbered-number PadWrong = refl
numbered-number SheetLong = refl
numbered-number OutputShort = refl
numbered-number ChainLong = refl
numbered-number NumberMissing = refl
numbered-number CodeWaits = refl
numbered-number GroupDeep = refl
numbered-number TotalFull = refl
numbered-number KeptExceed = refl
numbered-number RangesExceed = refl

-- each has a number of its own
pub refusal_same : (e f : Refusal) → refusal_number e ≡ refusal_number f → e ≡ f
refusal_same e f q = sym (numbered-number e) ∙ ap numbered q ∙ numbered-number f

pub refusal_other : (e f : Refusal) → (e ≡ f → ⊥) → eqb (refusal_number e) (refusal_number f) ≡ false
refusal_other e f h = ne_eqb (refusal_number e) (refusal_number f) (λ q. h (refusal_same e f q))
