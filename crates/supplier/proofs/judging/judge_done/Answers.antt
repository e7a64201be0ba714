use borrow.Author.Rules.{rules}
use Rattle.supplier.proofs.CheckLaws.{match_never, done_judged}
use Rattle.supplier.proofs.judging.judge_done.Goals as goal

pub returns-in_err-front : goal.returns-in_err-front
returns-in_err-front c = absurd (match_never c.requires _ c.in_err-front.ensures)

pub compare_memories-requires : goal.compare_memories-requires
compare_memories-requires c =
    let s = c.requires.sizes in
    record { mem_size = s.mem_size; code_size = s.code_size; words_size = search rules; bytes_size = search rules }

pub returns : goal.returns
returns c = done_judged c.requires _ c.in_ok-front.ensures c.compare_memories.ensures
