use Rattle.std.proofs.Common.{length, ap, ◌∙◌, arith}
use Rattle.keys.specs.InWords.{in_words}
use Rattle.index.specs.Nodes.{bounds}
use Rattle.index.specs.Search.{search}
use Rattle.index.proofs.LocateLaws.{node_is}
use Rattle.index.proofs.table.Index.entry_at.Goals as goal

pub search-requires : goal.search-requires
search-requires g c =
    let x = c.args.self.now in
    rw (c.as_slice.ensures.value ∙ node_is x c.args.at c.index-self-at.result c.requires.0) c.requires.1

pub returns : goal.returns
returns g c =
    let x = c.args.self.now in
    let same = c.as_slice.ensures.value ∙ node_is x c.args.at c.index-self-at.result c.requires.0 in
    record {
      place = c.search.ensures.place ∙ ap (λ es. search (in_words g.K.Key.kind) (g.K.Key.kind.form c.args.key.now) (bounds es)) same;
      within = omega (arith, c.search.ensures.within, ap length same);
      small = omega (arith, c.search.ensures.within, c.as_slice.ensures.fits);
    }
