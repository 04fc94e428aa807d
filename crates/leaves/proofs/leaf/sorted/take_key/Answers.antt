use Rattle.keys.proofs.WordLaws.{in_words_ordered}
use Rattle.keys.specs.InWords.{in_words}
use Rattle.std.proofs.Common.{ap, ◌∙◌, sym, rules, tests}
use Rattle.std.proofs.lemmas.Iterator.{YieldsList-from_slice}
use Rattle.std.proofs.lemmas.Iterator.Search.{position_from_yields_List}
use Rattle.fixed_vec.specs.Items.{items}
use Rattle.leaves.specs.declared.leaf.Pair.{Pair}
use Rattle.leaves.specs.Pairs.{equal}
use Rattle.leaves.proofs.RunLaws.{delete_at, delete_none, place_in}
use Rattle.leaves.proofs.leaf.sorted.take_key.Goals as goal

pub returns-in-Some : goal.returns-in-Some
returns-in-Some g c =
    let o = in_words g.K.Key.kind in
    let ordered = in_words_ordered g.K.Key.kind g.met.K.Key.ordered g.met.K.Key.formed in
    let found = position_from_yields_List (λ (p : Pair). equal p.key c.args.key) _ _ c.position.result c.position.ensures.ran (YieldsList-from_slice c.as_slice.result.now cc) (λ x b q k. search (rules, tests)) in
    c.remove.ensures ∙ sym (delete_at o ordered c.args.key (items c.args.run.now) c.in-Some.at c.requires (sym c.in-Some.is ∙ found ∙ ap (place_in c.args.key) c.as_slice.ensures.value))

pub returns-in_default : goal.returns-in_default
returns-in_default g c =
    let o = in_words g.K.Key.kind in
    let ordered = in_words_ordered g.K.Key.kind g.met.K.Key.ordered g.met.K.Key.formed in
    let found = position_from_yields_List (λ (p : Pair). equal p.key c.args.key) _ _ c.position.result c.position.ensures.ran (YieldsList-from_slice c.as_slice.result.now cc) (λ x b q k. search (rules, tests)) in
    sym (delete_none o ordered c.args.key (items c.args.run.now) c.requires (sym c.in_default.is ∙ found ∙ ap (place_in c.args.key) c.as_slice.ensures.value))
