use Rattle.std.proofs.Common.{◌<◌, ◌≤◌, length, arith}
use Rattle.keys.specs.InWords.{in_words}
use Rattle.keys.proofs.WordLaws.{in_words_ordered}
use Rattle.index.specs.Meaning.{grouped}
use Rattle.index.proofs.LocateLaws.{length_grouped, only_group, root_has, few_length, few_group, row_has, many_within, many_group}
use Rattle.index.proofs.table.Index.group_of.Goals as goal

pub returns-then-self-le1 : goal.returns-then-self-le1
returns-then-self-le1 g c =
    let x = c.args.self.now in
    let n = length_grouped x in
    record { within = omega (arith, n, x.size.0); group = λ up. only_group (in_words g.K.Key.kind) (g.K.Key.kind.form c.args.key.now) (grouped x) (omega (arith, n, c.if-self-le1.true)) }

pub entry_at-row-requires : goal.entry_at-row-requires
entry_at-row-requires g c =
    let x = c.args.self.now in
    (omega arith, root_has (grouped x) (omega (arith, length_grouped x, c.if-self-le1.false)))

pub returns-then-self-le9 : goal.returns-then-self-le9
returns-then-self-le9 g c =
    let x = c.args.self.now in
    let n = length_grouped x in
    let some : 1 < length (grouped x) = omega (arith, n, c.if-self-le1.false) in
    let few : length (grouped x) ≤ 9 = omega (arith, n, c.if-self-le9.true) in
    record { within = omega (arith, c.entry_at-row.ensures.within, few_length (grouped x) some few); group = λ up. few_group (grouped x) some few (in_words g.K.Key.kind) (g.K.Key.kind.form c.args.key.now) c.entry_at-row.ensures.place }

pub entry_at-column-requires : goal.entry_at-column-requires
entry_at-column-requires g c =
    let x = c.args.self.now in
    (omega (arith, c.entry_at-row.ensures.small), row_has (grouped x) (omega (arith, length_grouped x, c.if-self-le9.false)) c.entry_at-row.result c.entry_at-row.ensures.within)

pub returns : goal.returns
unfolding grouped
returns g c =
    let x = c.args.self.now in
    let n = length_grouped x in
    let many : 9 < length (grouped x) = omega (arith, n, c.if-self-le9.false) in
    let row = c.entry_at-row.ensures in
    record {
      within = many_within (grouped x) many c.entry_at-row.result row.within c.entry_at-column.result c.entry_at-column.ensures.within;
      group = λ up. many_group (grouped x) many c.entry_at-row.result row.within (in_words g.K.Key.kind) (in_words_ordered g.K.Key.kind g.met.K.Key.ordered g.met.K.Key.formed) (g.K.Key.kind.form c.args.key.now) (omega (arith, n, x.size.1)) x.full up row.place c.entry_at-column.ensures.place;
    }
