use Rattle.std.proofs.Common.{◌≡◌, true, length, sym, ap, ◌∙◌, arith, rules}
use Rattle.std.proofs.lemmas.Bool.{cond-true}
use Rattle.index.specs.Nodes.{bounds, renamed}
use Rattle.index.specs.Search.{last, concat}
use Rattle.index.specs.Places.{within, group_of}
use Rattle.index.specs.Meaning.{grouped}
use Rattle.index.proofs.ChangeLaws.{Changed, bounds_renamed, length_renamed, group_at, changed}
use Rattle.index.proofs.ListLaws.{concat_renamed}
use Rattle.index.proofs.PlaceLaws.{Within, within_parts}
use Rattle.index.proofs.table.Index.replace.Goals.{Else-not-has, After-rename_in}
use Rattle.index.proofs.table.Index.replace.Goals as goal

there : (c : Else-not-has) → Within (grouped c.args.self.now) c.args.place
there c = within_parts (grouped c.args.self.now) c.args.place (search rules)

change : (c : After-rename_in) → Within (grouped c.args.self.now) c.args.place → Changed c.args.self.now c.args.place.group (renamed (group_of (grouped c.args.self.now) c.args.place) c.args.place.slot c.args.leaf) c.rename_in.new.nodes
change c w =
    let p = c.args.place in
    changed c.args.self.now p.group c.node_of-at.result (λ es. renamed es p.slot c.args.leaf) c.rename_in.new.nodes w.0 c.node_of-at.ensures.node c.rename_in.ensures (ap last (bounds_renamed (group_of (grouped c.args.self.now) p) p.slot c.args.leaf))

pub rename_in-requires : goal.rename_in-requires
rename_in-requires c =
    let x = c.args.self.now in
    let w = there (goal.at.rename_in-requires c).Else-not-has in
    let at = c.node_of-at.ensures in
    (omega (arith, at.within, x.size.2), omega (arith, w.1, ap length (group_at x c.args.place.group c.node_of-at.result w.0 at.node)))

pub invariant_of-self : goal.invariant_of-self
unfolding grouped
invariant_of-self c =
    let x = c.args.self.now in
    let p = c.args.place in
    let w = there (goal.at.invariant_of-self c).Else-not-has in
    let ch = change (goal.at.invariant_of-self c).After-rename_in w in
    let long = length_renamed (group_of (grouped x) p) p.slot c.args.leaf in
    record {
      size = (x.size.0, x.size.1, ch.long);
      counted = (x.counted.0 ∙ sym (ap (λ gs. length (concat gs)) ch.all ∙ ap length (concat_renamed (grouped x) p.group p.slot c.args.leaf w.0 w.1) ∙ length_renamed (concat (grouped x)) _ c.args.leaf), x.counted.1);
      full = ch.full (omega (arith, w.1, long));
      small = ch.small (omega (arith, long, x.small p.group w.0));
      sound = ch.sound;
    }

pub returns : goal.returns
unfolding grouped
returns c =
    let gs = grouped c.args.self.now in
    let p = c.args.place in
    let t : within gs p ≡ true = search rules in
    let w = within_parts gs p t in
    let all = (change (goal.at.returns c).After-rename_in w).all in
    let list = ap concat all ∙ concat_renamed gs p.group p.slot c.args.leaf w.0 w.1 in
    record {
      answer = sym t;
      groups = all ∙ sym (cond-true _ _ _ t);
      list = list ∙ sym (cond-true _ _ _ t);
      bounds = ap bounds list ∙ bounds_renamed (concat gs) _ c.args.leaf;
    }
