use Rattle.std.proofs.Common.{sym, ◌∙◌}
use Rattle.memory.proofs.Facts.{cut_of}
use Rattle.memory.proofs.cut.Goals as goal

pub returns : goal.returns
returns g c =
    let s = c.args.memory.now in
    let of = cut_of (g.M.Memory.meaning s) (g.M.Memory.meaning c.settle.new.self) c.args.choice.now c.args.steps in
    record {
      answer = c.settle.ensures.answer;
      after = c.settle.ensures.after;
      whole = c.settle.ensures.whole;
      free = c.settle.ensures.free;
      mixed = λ ok. (of (sym ok ∙ c.settle.ensures.answer) c.settle.ensures.after).0;
      settled = λ ok. (of (sym ok ∙ c.settle.ensures.answer) c.settle.ensures.after).1;
    }
