-- A logbook after a granted format is sound.
use Rattle.std.proofs.Common.{◌≡◌, ℕ, List, [], ◌∷◌, Ok, inl, sym, ap, ◌∙◌, subst, zero-add, arith}
use Rattle.std.proofs.lemmas.Bool.Decides.{nat_tests}
use Rattle.keys.specs.InWords.{WordKind, WordOrdered}
use Rattle.memory.specs.Meaning.{Words}
use Rattle.writes.specs.Writes.{Answer, Run, onward, outcome, perform}
use Rattle.writes.specs.Laws.{Cut}
use Rattle.books.specs.Format.{Empty, Roomy, format_writes, formatted}
use Rattle.books.proofs.FormatLaws.{format_cut_holds, formats_hold}
use Rattle.index.specs.Meaning.{listed}
use Rattle.index.specs.Nodes.{entry}
use Rattle.index.specs.Search.{concat}
use Rattle.tree.specs.declared.logbook.State.{State}
use Rattle.tree.specs.declared.logbook.State.TheVariants.{Blank, Open, Dark}
use Rattle.tree.specs.Formatting.{AfterCut, ended_shape, format_check, room_for}
use Rattle.tree.specs.Shape.{shape_of}
use Rattle.tree.specs.Sound.{Fits, Sound}
use Rattle.tree.proofs.LocatedLaws.{never_ok}
use Rattle.tree.proofs.OpenLaws.{same_groups}

roomy_from : (m : Words) (n : ℕ) → room_for m n ≡ Ok tt → Roomy m n
roomy_from m n e = record { least = grind (arith, nat_tests); most = grind (arith, nat_tests); fits = grind (arith, nat_tests) }

roomy : (s : State) (m : Words) (n : ℕ) → Ok tt ≡ format_check s m n → Roomy m n
roomy Blank m n e = roomy_from m n (sym e)
roomy (Open x) m n e = roomy_from m n (sym e)
roomy Dark m n e = never_ok _ e

alone_sound : (o : WordKind) (words : List ℕ) (r : State) → Empty o words → shape_of r ≡ ended_shape (Ok tt) → Sound o words r
alone_sound o words Blank empty e = tt
alone_sound o words (Open x) empty e =
    let is : listed x ≡ entry 1 (0, 0) ∷ [] = ap concat (same_groups _ _ e) in
    subst (Fits o words) (sym is) (record { opens = empty.opens; bounded = tt; ascending = tt })
alone_sound o words Dark empty e = tt

onward_none : (r : Run) → onward 0 r ≡ r
onward_none r = ap (λ k. outcome r.after k r.ended) (zero-add r.steps)

-- The format as its writes made it, with the steps counted from 0.
pub ran : (o : WordKind) (m after : Words) (n code steps : ℕ) (ended : Answer) → code ≡ o.code → outcome after steps ended ≡ onward 0 (perform m (format_writes code n)) → outcome after steps ended ≡ formatted o m n
ran o m after n code steps ended same e = e ∙ onward_none (perform m (format_writes code n)) ∙ ap (λ k. perform m (format_writes k n)) same

pub sound_formatted : (o : WordKind) → WordOrdered o → (s : State) (m : Words) (n : ℕ) (after : Words) (steps : ℕ) (r : State)
    → Ok tt ≡ format_check s m n → outcome after steps (Ok tt) ≡ formatted o m n → shape_of r ≡ ended_shape (Ok tt) → Sound o after.live r
sound_formatted o ordered s m n after steps r check ran shape =
    let made = formats_hold o ordered m n (roomy s m n check) (sym (ap (λ y. y.ended) ran)) in
    subst (λ (w : Words). Sound o w.live r) (sym (ap (λ y. y.after) ran)) (alone_sound o (formatted o m n).after.live r made.empty shape)

pub cut_formatted : (o : WordKind) → WordOrdered o → (s : State) (m : Words) (n : ℕ) (after : Words) (steps : ℕ) (ended : Answer)
    → Ok tt ≡ format_check s m n → outcome after steps ended ≡ formatted o m n → AfterCut o m after
cut_formatted o ordered s m n after steps ended check ran words cut =
    format_cut_holds o ordered m n (roomy s m n check) words (subst (λ (w : Words). Cut w words) (ap (λ y. y.after) ran) cut)

pub cut_unchanged : (o : WordKind) (m after : Words) → after ≡ m → AfterCut o m after
cut_unchanged o m after e words cut = inl (subst (λ (w : Words). Cut w words) e cut)
