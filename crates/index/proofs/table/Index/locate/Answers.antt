use Rattle.std.proofs.Common.{◌≡◌, length, ap, ◌∙◌, arith}
use Rattle.keys.specs.InWords.{in_words}
use Rattle.keys.proofs.WordLaws.{in_words_ordered}
use Rattle.index.specs.Nodes.{bounds}
use Rattle.index.specs.Search.{search, front, Ascending}
use Rattle.index.specs.Places.{position}
use Rattle.index.specs.Meaning.{grouped, listed}
use Rattle.index.proofs.ChangeLaws.{group_read}
use Rattle.index.proofs.LocateLaws.{leaves_some, by_groups, then_first, then_only}
use Rattle.index.proofs.PlaceLaws.{within_of}
use Rattle.index.proofs.table.Index.locate.Goals as goal

pub search-slot-requires : goal.search-slot-requires
unfolding grouped
search-slot-requires g c =
    let x = c.args.self.now in
    let below = c.group_of-group.ensures.within in
    let same = c.as_slice.ensures.value ∙ group_read c.groups.result.now (grouped x) c.group_of-group.result c.index-groups-group.result c.groups.ensures below in
    omega (arith, x.full c.group_of-group.result below, ap length same)

pub returns : goal.returns
unfolding grouped
returns g c =
    let x = c.args.self.now in
    let gs = grouped x in
    let below = c.group_of-group.ensures.within in
    let same = c.as_slice.ensures.value ∙ group_read c.groups.result.now gs c.group_of-group.result c.index-groups-group.result c.groups.ensures below in
    let o = in_words g.K.Key.kind in
    let laws = in_words_ordered g.K.Key.kind g.met.K.Key.ordered g.met.K.Key.formed in
    let bs = bounds (listed x) in
    let found = c.search-slot.ensures in
    let slot = found.place ∙ ap (λ es. search o (g.K.Key.kind.form c.args.key.now) (bounds es)) same in
    let is : Ascending o (front bs) → position gs (record { group = c.group_of-group.result; slot = c.search-slot.result }) ≡ search o (g.K.Key.kind.form c.args.key.now) bs = λ up. by_groups o laws (g.K.Key.kind.form c.args.key.now) gs (omega (arith, below)) x.full up (c.group_of-group.ensures.group up) slot in
    record {
      within = within_of gs _ (below, omega (arith, found.within, ap length same));
      place = is;
      first = λ up. then_first o (g.K.Key.kind.form c.args.key.now) bs (is up) (leaves_some x);
      only = λ p up f. then_only o (g.K.Key.kind.form c.args.key.now) bs (is up) p f;
    }
