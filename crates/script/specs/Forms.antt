-- How each line of a script is written. A form has its name first, and so many words.
use Rattle.std.specs.Prelude.{◌≡◌, ℕ, ◌+◌, ◌^◌, ◌≤◌, ◌<◌, ◌⊎◌, List, [], length, slice_index_or, codes, Result, Ok}
use Rattle.std.specs.Borrow.{Bor}
use Rattle.std.specs.Result.{OkIff}
use Rattle.std.specs.Str.Parse.{IsNumeral, digits_value}
use Rattle.layers.specs.declared.chosen.Sort.TheVariants.{Hides, Turns}
use Rattle.script.specs.declared.line.Kind.TheVariants.{Stamp, Port}
use Rattle.script.specs.declared.line.Fields.TheVariants.{Stamp as StampFields, Port as PortFields}
use Rattle.script.specs.declared.line.Make.{Make}
use Rattle.script.specs.declared.line.Make.TheVariants.{Through, Buffered}
use Rattle.script.specs.declared.line.Setting.{Setting}
use Rattle.script.specs.declared.line.Setting.TheVariants.{Layer, Kind, Anew}
use Rattle.script.specs.declared.line.Probing.{Probing}
use Rattle.script.specs.declared.line.Probing.TheVariants.{Steps, Poke, Dump}
use Rattle.script.specs.declared.line.Call.{Call}
use Rattle.script.specs.declared.line.Call.TheVariants.{Format, Open, Put, Change, Remove, Find, Next, Pairs, Node, State}
use Rattle.script.specs.declared.line.Keeps.TheVariants.{Firm, Live, Mix}
use Rattle.script.specs.declared.line.Line.{Line}
use Rattle.script.specs.declared.line.Line.TheVariants.{Cut}
use Rattle.script.specs.declared.wrong.Wrong.{Wrong}

-- The words of a line, and the text of word i, which is empty past the end.
abbrev pub Words : Type 0
Words = List (Bor (List ℕ))

abbrev pub word : Words → ℕ → List ℕ
word ws i = (slice_index_or ws i (record { ref_ptr = (0, 0); now = [] })).now

-- So many words, of which the first is the name.
abbrev pub Form : Words → List ℕ → ℕ → Type 0
Form ws name count = (length ws ≡ count) × (word ws 0 ≡ name)

-- Decimal digits of a number that fits a word of memory, and that number.
abbrev pub IsNumber : List ℕ → Type 0
IsNumber text = IsNumeral 10 text × (digits_value 10 text < 2 ^ 64)

abbrev pub number_of : List ℕ → ℕ
number_of text = digits_value 10 text

-- The same where the second word is a name too.
abbrev pub Form₂ : Words → List ℕ → List ℕ → ℕ → Type 0
Form₂ ws name second count = Form ws name count × (word ws 1 ≡ second)

-- A line of this form is taken just if its words from word i on, so many, are numbers, and asks then for what f makes of these.
module _ {X : Type 0} (ws : Words) (r : Result X Wrong) where
  abbrev pub Takes₁ : Type 0 → ℕ → (ℕ → X) → Type 0
  Takes₁ form i f = form → OkIff r (IsNumber (word ws i)) (f (number_of (word ws i)))

  abbrev pub Takes₂ : Type 0 → ℕ → (ℕ → ℕ → X) → Type 0
  Takes₂ form i f = form → OkIff r (IsNumber (word ws i) × IsNumber (word ws (i + 1))) (f (number_of (word ws i)) (number_of (word ws (i + 1))))

  abbrev pub Takes₃ : Type 0 → ℕ → (ℕ → ℕ → ℕ → X) → Type 0
  Takes₃ form i f = form → OkIff r
      (IsNumber (word ws i) × IsNumber (word ws (i + 1)) × IsNumber (word ws (i + 2)))
      (f (number_of (word ws i)) (number_of (word ws (i + 1))) (number_of (word ws (i + 2))))

  abbrev pub Takes₄ : Type 0 → ℕ → (ℕ → ℕ → ℕ → ℕ → X) → Type 0
  Takes₄ form i f = form → OkIff r
      (IsNumber (word ws i) × IsNumber (word ws (i + 1)) × IsNumber (word ws (i + 2)) × IsNumber (word ws (i + 3)))
      (f (number_of (word ws i)) (number_of (word ws (i + 1))) (number_of (word ws (i + 2))) (number_of (word ws (i + 3))))

-- What the words of a line ask for, by their form: memory, setting, probing and call are what is made of each part in a line. A deed changes the
-- book, a question asks it for a key.
module _ {X : Type 0} (ws : Words) (r : Result X Wrong) where
  pub record ReadsMemory (memory : Make → X) : Type 0 where
    pub through : Takes₁ ws r (Form₂ ws (codes "memory") (codes "through") 3) 2 (λ n. memory (Through n))
    pub buffered : Takes₂ ws r (Form₂ ws (codes "memory") (codes "buffered") 4) 2 (λ n s. memory (Buffered n s))

  pub record ReadsSetting (setting : Setting → X) : Type 0 where
    pub margin : Takes₁ ws r (Form ws (codes "margin") 2) 1 (λ n. setting (Layer (Hides n)))
    pub rotation : Takes₁ ws r (Form ws (codes "rotation") 2) 1 (λ n. setting (Layer (Turns n)))
    pub stamp : Form₂ ws (codes "kind") (codes "stamp") 2 → r ≡ Ok (setting (Kind Stamp))
    pub port : Form₂ ws (codes "kind") (codes "port") 2 → r ≡ Ok (setting (Kind Port))
    pub make : Form ws (codes "make") 1 → r ≡ Ok (setting Anew)

  pub record ReadsProbing (probing : Probing → X) : Type 0 where
    pub steps : Form ws (codes "steps") 1 → r ≡ Ok (probing Steps)
    pub poke : Takes₂ ws r (Form ws (codes "poke") 3) 1 (λ i w. probing (Poke i w))
    pub dump : Form ws (codes "dump") 1 → r ≡ Ok (probing Dump)

  pub record ReadsDeed (call : Call → X) : Type 0 where
    pub put-stamp : Takes₄ ws r (Form ws (codes "put") 5) 1 (λ y d t v. call (Put (StampFields y d t) v))
    pub put-port : Takes₃ ws r (Form ws (codes "put") 4) 1 (λ i p v. call (Put (PortFields i p) v))
    pub change-stamp : Takes₄ ws r (Form ws (codes "change") 5) 1 (λ y d t v. call (Change (StampFields y d t) v))
    pub change-port : Takes₃ ws r (Form ws (codes "change") 4) 1 (λ i p v. call (Change (PortFields i p) v))
    pub remove-stamp : Takes₃ ws r (Form ws (codes "remove") 4) 1 (λ y d t. call (Remove (StampFields y d t)))
    pub remove-port : Takes₂ ws r (Form ws (codes "remove") 3) 1 (λ i p. call (Remove (PortFields i p)))

  pub record ReadsQuestion (call : Call → X) : Type 0 where
    pub find-stamp : Takes₃ ws r (Form ws (codes "find") 4) 1 (λ y d t. call (Find (StampFields y d t)))
    pub find-port : Takes₂ ws r (Form ws (codes "find") 3) 1 (λ i p. call (Find (PortFields i p)))
    pub next-stamp : Takes₃ ws r (Form ws (codes "next") 4) 1 (λ y d t. call (Next (StampFields y d t)))
    pub next-port : Takes₂ ws r (Form ws (codes "next") 3) 1 (λ i p. call (Next (PortFields i p)))

  pub record ReadsCall (call : Call → X) : Type 0 where
    pub format : Takes₁ ws r (Form ws (codes "format") 2) 1 (λ n. call (Format n))
    pub opens : Form ws (codes "open") 1 → r ≡ Ok (call Open)
    pub pairs : Form ws (codes "pairs") 1 → r ≡ Ok (call Pairs)
    pub node : Takes₁ ws r (Form ws (codes "node") 2) 1 (λ n. call (Node n))
    pub state : Form ws (codes "state") 1 → r ≡ Ok (call State)

-- A cut that keeps all words firm or all live, and one with a mix, of one word at least.
abbrev pub CutAs : Words → List ℕ → Type 0
CutAs ws keeps = Form ws (codes "cut") 3 × (word ws 2 ≡ keeps)

abbrev pub CutMix : Words → Type 0
CutMix ws = (4 ≤ length ws) × (word ws 0 ≡ codes "cut") × (word ws 2 ≡ codes "mix")

-- The words from the fourth on are numbers.
abbrev pub IsMix : Words → Type 0
IsMix ws = (i : ℕ) → 3 ≤ i → i < length ws → IsNumber (word ws i)

module _ (ws : Words) (r : Result Line Wrong) where
  pub record ReadsCut : Type 0 where
    pub firm : Takes₁ ws r (CutAs ws (codes "firm")) 1 (λ n. Cut n Firm)
    pub live : Takes₁ ws r (CutAs ws (codes "live")) 1 (λ n. Cut n Live)
    pub mix : CutMix ws → OkIff r (IsNumber (word ws 1) × IsMix ws) (Cut (number_of (word ws 1)) Mix)

-- The forms that there are; no other line is a call.
abbrev pub MemoryForm : Words → Type 0
MemoryForm ws = Form₂ ws (codes "memory") (codes "through") 3 ⊎ Form₂ ws (codes "memory") (codes "buffered") 4

abbrev pub SettingForm : Words → Type 0
SettingForm ws = Form ws (codes "margin") 2 ⊎ (Form ws (codes "rotation") 2 ⊎ (Form₂ ws (codes "kind") (codes "stamp") 2
    ⊎ (Form₂ ws (codes "kind") (codes "port") 2 ⊎ Form ws (codes "make") 1)))

abbrev pub ProbingForm : Words → Type 0
ProbingForm ws = Form ws (codes "steps") 1 ⊎ (Form ws (codes "poke") 3 ⊎ Form ws (codes "dump") 1)

abbrev pub DeedForm : Words → Type 0
DeedForm ws = Form ws (codes "put") 5 ⊎ (Form ws (codes "put") 4 ⊎ (Form ws (codes "change") 5 ⊎ (Form ws (codes "change") 4
    ⊎ (Form ws (codes "remove") 4 ⊎ Form ws (codes "remove") 3))))

abbrev pub CutForm : Words → Type 0
CutForm ws = CutAs ws (codes "firm") ⊎ (CutAs ws (codes "live") ⊎ CutMix ws)

abbrev pub QuestionForm : Words → Type 0
QuestionForm ws = Form ws (codes "find") 4 ⊎ (Form ws (codes "find") 3 ⊎ (Form ws (codes "next") 4 ⊎ Form ws (codes "next") 3))

abbrev pub CallForm : Words → Type 0
CallForm ws = Form ws (codes "format") 2 ⊎ (Form ws (codes "open") 1 ⊎ (Form ws (codes "pairs") 1 ⊎ (Form ws (codes "node") 2 ⊎ Form ws (codes "state") 1)))

abbrev pub AnyForm : Words → Type 0
AnyForm ws = MemoryForm ws ⊎ (SettingForm ws ⊎ (ProbingForm ws ⊎ (DeedForm ws ⊎ (QuestionForm ws ⊎ (CutForm ws ⊎ CallForm ws)))))

-- The names that begin the lines of each kind.
abbrev pub Named : Words → List ℕ → Type 0
Named ws name = word ws 0 ≡ name

abbrev pub NamesMemory : Words → Type 0
NamesMemory ws = Named ws (codes "memory")

abbrev pub NamesSetting : Words → Type 0
NamesSetting ws = Named ws (codes "margin") ⊎ (Named ws (codes "rotation") ⊎ (Named ws (codes "kind") ⊎ Named ws (codes "make")))

abbrev pub NamesProbing : Words → Type 0
NamesProbing ws = Named ws (codes "steps") ⊎ (Named ws (codes "poke") ⊎ Named ws (codes "dump"))

abbrev pub NamesDeed : Words → Type 0
NamesDeed ws = Named ws (codes "put") ⊎ (Named ws (codes "change") ⊎ Named ws (codes "remove"))

abbrev pub NamesQuestion : Words → Type 0
NamesQuestion ws = Named ws (codes "find") ⊎ Named ws (codes "next")

abbrev pub NamesCut : Words → Type 0
NamesCut ws = Named ws (codes "cut")

abbrev pub NamesCall : Words → Type 0
NamesCall ws = Named ws (codes "format") ⊎ (Named ws (codes "open") ⊎ (Named ws (codes "pairs") ⊎ (Named ws (codes "node") ⊎ Named ws (codes "state"))))
