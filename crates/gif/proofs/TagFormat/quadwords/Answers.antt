use Rattle.gif.specs.Tag.{quadwords_of}
use Rattle.gif.proofs.TagFormat.quadwords.Goals as goal

pub returns-in-Packed : goal.returns-in-Packed
unfolding quadwords_of
returns-in-Packed c = simp c.in-Packed.is

pub returns-in-Reglist : goal.returns-in-Reglist
unfolding quadwords_of
returns-in-Reglist c = simp c.in-Reglist.is

pub returns-in-Image : goal.returns-in-Image
unfolding quadwords_of
returns-in-Image c = simp c.in-Image.is
