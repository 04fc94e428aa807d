-- What the program's arguments ask for. A task is a word, or a word and the name of a file.
use Rattle.std.specs.Prelude.{◌≡◌, ◌⊎◌, length, Some, Option, codes}
use Rattle.script.specs.Forms.{Form, Form₂, Words}
use Rattle.script.specs.declared.args.Task.{Task}
use Rattle.script.specs.declared.args.Task.TheVariants.{Play, Sweep, SweepAll, Image, Inspect, Damage}

pub record ReadsTask (ws : Words) (r : Option Task) : Type 0 where
  pub play : length ws ≡ 0 → r ≡ Some Play
  pub sweep : Form ws (codes "sweep") 1 → r ≡ Some Sweep
  pub sweep-all : Form₂ ws (codes "sweep") (codes "all") 2 → r ≡ Some SweepAll
  pub image : Form ws (codes "image") 2 → r ≡ Some Image
  pub inspect : Form ws (codes "inspect") 2 → r ≡ Some Inspect
  pub damage : Form ws (codes "damage") 2 → r ≡ Some Damage

-- The forms that there are.
abbrev pub TaskForm : Words → Type 0
TaskForm ws = (length ws ≡ 0) ⊎ (Form ws (codes "sweep") 1 ⊎ (Form₂ ws (codes "sweep") (codes "all") 2
    ⊎ (Form ws (codes "image") 2 ⊎ (Form ws (codes "inspect") 2 ⊎ Form ws (codes "damage") 2))))
