use mathlib.Core.Path.{sym, ◌∙◌, ◌≡◌}
use native.Mathlib.Nat.{div-one}
use native.Mathlib.Omega.{arith}
use borrow.Author.Tests.{le-leb, lt-leb}
use Rattle.std.proofs.lemmas.Grind.{common_steps}
use Rattle.std.specs.Prelude.{Some, None, Err}
use Rattle.fields.specs.declared.refusals.Refusal.TheVariants.{FormatMissing}
use Rattle.fields.specs.Fields.{if, bits}
use Rattle.vif_codes.specs.Codes.{code_of}
use Rattle.vif_codes.proofs.decoding.code_of.Goals as goal

pub returns-in_err-f : goal.returns-in_err-f
unfolding code_of bits if
returns-in_err-f c =
    let e : c.format_named.result ≡ None = grind (arith, common_steps) in
    let r : c.from_residual.result ≡ Err FormatMissing = grind (arith, common_steps) in
    simp (le-leb _ _ c.if-cmd-ge96.true, div-one, ← c.format_named.ensures, e, r)

pub returns-then-cmd-ge96 : goal.returns-then-cmd-ge96
unfolding code_of bits if
returns-then-cmd-ge96 c =
    let e : c.format_named.result ≡ Some c.in_ok-f.f = grind (arith, common_steps) in
    simp (le-leb _ _ c.if-cmd-ge96.true, div-one, ← c.unpack_numbers.ensures, ← c.format_named.ensures, e)

pub returns-then-code_listed : goal.returns-then-code_listed
unfolding code_of if
returns-then-code_listed c =
    rw (lt-leb _ _ c.if-cmd-ge96.false, sym c.code_listed.ensures ∙ c.if-code_listed.true) c.plain_code.ensures

pub returns-else-code_listed : goal.returns-else-code_listed
unfolding code_of if
returns-else-code_listed c = rw (lt-leb _ _ c.if-cmd-ge96.false, sym c.code_listed.ensures ∙ c.if-code_listed.false)
