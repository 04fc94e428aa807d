-- A margin of no line shows the memory below as it is, so a pile means the layers that were named.
use Rattle.std.proofs.Common.{◌≡◌, ℕ, ◌+◌, ◌-◌, ◌*◌, ◌/◌, ◌%◌, ◌≤◌, List, [], ◌∷◌, length, sym, refl, ap, ◌∙◌, arith}
use Rattle.std.specs.Prelude.{slice_index_or}
use Rattle.memory.specs.Meaning.{Choosing, Lawful, Words}
use Rattle.memory.proofs.Words.{is_tabled, words_by}
use Rattle.layers.specs.Layers.{layered, layered_lawful, place, shown}
use Rattle.layers.specs.Chosen.{numbered}
use Rattle.layers.specs.declared.chosen.Sort.{Sort}
use Rattle.layers.specs.declared.layer.Layer.{Layer}
use Rattle.layers.specs.declared.chosen.Sort.TheVariants.{Hides}
use Rattle.desk.specs.Piles.{pile_words, under}

abbrev pub none : Sort
none = Hides 0

shown_all : (xs : List ℕ) (n : ℕ) → length xs ≡ n → shown (λ l. l + 0) n xs ≡ xs
shown_all xs n e = sym (is_tabled xs n _ e (λ k h. let same : 8 * (k / 8 + 0) + k % 8 ≡ k = omega arith in rw same refl))

-- A layer that hides nothing leaves each choice where it was.
in_order : (i : ℕ) → place (λ l. l + 0) i ≡ i
in_order i = omega arith

choosing_same : (c : Choosing) → record { many = c.many; place = λ i. c.place (place (λ l. l + 0) i) } ≡ c
choosing_same c = ap (λ (f : ℕ → ℕ). record { many = c.many; place = f }) (λ j i. c.place (in_order i j))

bare : {m : Words} → Lawful m → layered (numbered none) m ≡ m
bare {m} laws =
    words_by m.through m.power _ (shown_all m.live (length m.live - 0) (omega arith)) (shown_all m.firm (length m.live - 0) (omega (arith, laws.level)))
    ∙ ap (λ (c : Choosing). record { live = m.live; firm = m.firm; through = m.through; power = m.power; choosing = c }) (choosing_same m.choosing)

abbrev pub at : List Sort → ℕ → Sort
at ss i = slice_index_or ss i none

three : (ss : List Sort) {m : Words} → Lawful m → length ss ≤ 3
    → layered (numbered (at ss 2)) (layered (numbered (at ss 1)) (layered (numbered (at ss 0)) m)) ≡ under ss m
three [] laws h =
    let one = layered_lawful (numbered none) laws in
    bare (layered_lawful (numbered none) one) ∙ (bare one ∙ bare laws)
three (a ∷ []) laws h =
    let one = layered_lawful (numbered a) laws in
    bare (layered_lawful (numbered none) one) ∙ bare one
three (a ∷ (b ∷ [])) laws h = bare (layered_lawful (numbered b) (layered_lawful (numbered a) laws))
three (a ∷ (b ∷ (c ∷ []))) laws h = refl
three (a ∷ (b ∷ (c ∷ (d ∷ ss)))) laws h = absurd (omega (arith, h))

pub piles : {B : Type 0} (means : B → Words) (ss : List Sort) (p : Layer Sort (Layer Sort (Layer Sort B))) (b : B)
    → p.below.below.below ≡ b → p.below.below.numbering ≡ at ss 0 → p.below.numbering ≡ at ss 1 → p.numbering ≡ at ss 2
    → Lawful (means b) → length ss ≤ 3 → pile_words means p ≡ under ss (means b)
piles means ss p b e e0 e1 e2 laws h = rw (e, e0, e1, e2) (three ss laws h)
