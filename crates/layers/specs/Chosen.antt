-- What a layer is whose sort is chosen when the program runs.
use Rattle.layers.specs.Layers.{Numbering, Sound, margin, rotation}
use Rattle.layers.specs.NumberingLaws.{margin_sound, rotation_sound}
use Rattle.layers.specs.declared.chosen.Sort.{Sort}
use Rattle.layers.specs.declared.chosen.Sort.TheVariants.{Hides, Turns}

abbrev pub numbered : Sort → Numbering
numbered (Hides lines) = margin lines
numbered (Turns by) = rotation by

pub chosen_sound : (s : Sort) → Sound (numbered s)
chosen_sound (Hides lines) = margin_sound lines
chosen_sound (Turns by) = rotation_sound by
