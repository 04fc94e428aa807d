-- What a pile means, and that it is the layers of the script, one upon the other.
use Rattle.std.specs.Prelude.{List, [], ◌∷◌}
use Rattle.memory.specs.Meaning.{Words}
use Rattle.layers.specs.Layers.{layered}
use Rattle.layers.specs.Chosen.{numbered}
use Rattle.layers.specs.declared.chosen.Sort.{Sort}
use Rattle.layers.specs.declared.layer.Layer.{Layer}

-- A make under three layers, by what the make means.
abbrev pub pile_words : {B : Type 0} → (B → Words) → Layer Sort (Layer Sort (Layer Sort B)) → Words
pile_words means p =
    layered (numbered p.numbering) (layered (numbered p.below.numbering) (layered (numbered p.below.below.numbering) (means p.below.below.below)))

-- A memory under any layers, of which the first is the lowest.
abbrev pub under : List Sort → Words → Words
under [] m = m
under (s ∷ ss) m = under ss (layered (numbered s) m)
