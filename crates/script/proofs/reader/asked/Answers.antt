use Rattle.std.proofs.Common.{rules, arith}
use Rattle.std.proofs.lemmas.Grind.{common_steps}
use Rattle.script.proofs.AskLaws.{read_line, spoken}
use Rattle.script.proofs.reader.asked.Goals as goal

pub returns : goal.returns
returns c =
    let words = c.as_slice.result.now in
    let told = c.line.ensures in
    let reads = read_line words c.line.result told.memory told.setting told.probing told.deed told.question told.call told.cut told.others in
    record {
      comment = grind (arith, common_steps);
      no-text = search rules;
      text = λ h u. (words, search rules, spoken words c.line.result (search rules) reads);
    }
