use Rattle.std.proofs.Common.{ne_eqb}
use Rattle.fields.specs.Fields.{if}
use Rattle.unpack_rules.specs.declared.Format.TheVariants.{S32, S16, S8, V2x32, V2x16, V2x8, V3x32, V3x16, V3x8, V4x32, V4x16, V4x8, V4x5}
use Rattle.unpack_rules.specs.Formats.{named_in}
use Rattle.unpack_rules.proofs.FormatLaws.{names}
use Rattle.unpack_rules.proofs.formats.format_named.Goals as goal

pub returns-in_default : goal.returns-in_default
unfolding named_in if
returns-in_default c =
    let n = c.in_default.in_default-own.rest in
    rw (ne_eqb _ _ n.0.0.0.0.0.0.0.0.0.0.0.0.1, ne_eqb _ _ n.0.0.0.0.0.0.0.0.0.0.0.1, ne_eqb _ _ n.0.0.0.0.0.0.0.0.0.0.1, ne_eqb _ _ n.0.0.0.0.0.0.0.0.0.1, ne_eqb _ _ n.0.0.0.0.0.0.0.0.1, ne_eqb _ _ n.0.0.0.0.0.0.0.1, ne_eqb _ _ n.0.0.0.0.0.0.1, ne_eqb _ _ n.0.0.0.0.0.1, ne_eqb _ _ n.0.0.0.0.1, ne_eqb _ _ n.0.0.0.1, ne_eqb _ _ n.0.0.1, ne_eqb _ _ n.0.1, ne_eqb _ _ n.1)

pub returns-in-0 : goal.returns-in-0
returns-in-0 c = names S32 c.in-0.is

pub returns-in-1 : goal.returns-in-1
returns-in-1 c = names S16 c.in-1.is

pub returns-in-2 : goal.returns-in-2
returns-in-2 c = names S8 c.in-2.is

pub returns-in-4 : goal.returns-in-4
returns-in-4 c = names V2x32 c.in-4.is

pub returns-in-5 : goal.returns-in-5
returns-in-5 c = names V2x16 c.in-5.is

pub returns-in-6 : goal.returns-in-6
returns-in-6 c = names V2x8 c.in-6.is

pub returns-in-8 : goal.returns-in-8
returns-in-8 c = names V3x32 c.in-8.is

pub returns-in-9 : goal.returns-in-9
returns-in-9 c = names V3x16 c.in-9.is

pub returns-in-10 : goal.returns-in-10
returns-in-10 c = names V3x8 c.in-10.is

pub returns-in-12 : goal.returns-in-12
returns-in-12 c = names V4x32 c.in-12.is

pub returns-in-13 : goal.returns-in-13
returns-in-13 c = names V4x16 c.in-13.is

pub returns-in-14 : goal.returns-in-14
returns-in-14 c = names V4x8 c.in-14.is

pub returns-in-15 : goal.returns-in-15
returns-in-15 c = names V4x5 c.in-15.is
