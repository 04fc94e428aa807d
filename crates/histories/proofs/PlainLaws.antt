-- The plain book does and tells what the book of a memory does and tells.
use Rattle.std.proofs.Common.{◌≡◌, ℕ, cond, List, [], ◌∷◌, Some, None, sym, refl, ap, ◌∙◌, ⊎_elim, arith}
use Rattle.std.proofs.lemmas.Bool.{cases_Bool, cond-true, cond-false}
use Rattle.std.proofs.lemmas.Option.{none-some}
use Rattle.keys.specs.InWords.{WordKind, WordOrdered}
use Rattle.leaves.specs.declared.leaf.Pair.{Pair}
use Rattle.leaves.specs.Pairs.{equal, lookup, insert, delete}
use Rattle.leaves.specs.Ascent.{Ascending}
use Rattle.leaves.proofs.PairLaws.{equal_self}
use Rattle.books.proofs.QuestionLaws.{not_back}
use Rattle.plans.specs.declared.deed.Deed.{Deed}
use Rattle.plans.specs.declared.deed.Deed.TheVariants.{Put, Change, Remove}
use Rattle.plans.specs.Deeds.{key_of, done, BringsHeld, Goes}
use Rattle.plans.proofs.Lengths.{lookup_gone}
use Rattle.plans.proofs.CallLaws.{calls_change_hold, nothing_changes_hold}
use Rattle.histories.specs.PlainBook.{with_pair, with_call, reading_of, Question, find, next, pairs, reading_or, tells}
use Rattle.histories.specs.Outcome.{replies}

pub reading_same : (w : ℕ × ℕ) (ps : List Pair) → reading_of w ps ≡ lookup w ps
reading_same w [] = refl
reading_same w (p ∷ ps) = ap (cond (equal p.key w) (Some p.reading)) (reading_same w ps)

pub tells_same : (o : WordKind) (q : Question) (ps : List Pair) → tells o q ps ≡ replies o q ps
tells_same o (find w) ps = ap reading_or (reading_same w ps)
tells_same o (next w) ps = refl
tells_same o pairs ps = refl

module _ (o : WordKind) (ordered : WordOrdered o) where
  -- Where a key is not there, to put its pair in order is to insert it.
  with_pair_same : (q : Pair) (ps : List Pair) → lookup q.key ps ≡ None → with_pair o q ps ≡ insert o q ps
  with_pair_same q [] none = refl
  with_pair_same q (p ∷ ps) none =
      ⊎_elim
      (λ first. let back = not_back o ordered q.key p.key first in grind arith)
      (λ later. ⊎_elim
      (λ same. absurd (none-some p.reading (sym none ∙ cond-true (equal p.key q.key) _ _ same)))
      (λ other. ⊎_elim
      (λ before. let rest = with_pair_same q ps (sym (cond-false (equal p.key q.key) _ _ other) ∙ none) in grind arith)
      (λ after. let is = ordered.connected q.key p.key later after in let self = equal_self p.key in grind arith)
      (cases_Bool (o.before p.key q.key)))
      (cases_Bool (equal p.key q.key)))
      (cases_Bool (o.before q.key p.key))

  changed_same : (w : ℕ × ℕ) (r : ℕ) (ps : List Pair) → with_call o (Change w r) ps ≡ done o (Change w r) ps
  changed_same w r ps = with_pair_same (record { key = w; reading = r }) (delete w ps) (lookup_gone o ordered w ps)

  pub done_same : (d : Deed) (ps : List Pair) → Goes d (lookup (key_of d) ps) → with_call o d ps ≡ done o d ps
  done_same (Put w r) ps none = with_pair_same (record { key = w; reading = r }) ps none
  done_same (Change w r) ps goes = changed_same w r ps
  done_same (Remove w) ps goes = refl

  pub done_other : (d : Deed) (ps : List Pair) → Goes d (lookup (key_of d) ps) → with_call o d ps ≡ ps → ⊥
  done_other d ps goes same = calls_change_hold o ordered d ps goes (sym (done_same d ps goes) ∙ same)

  pub done_held : (d : Deed) (ps : List Pair) → Ascending o ps → BringsHeld d (lookup (key_of d) ps) → with_call o d ps ≡ ps
  done_held (Put w r) ps up brings = absurd brings
  done_held (Change w r) ps up brings = changed_same w r ps ∙ nothing_changes_hold o ordered (Change w r) ps up brings
  done_held (Remove w) ps up brings = absurd brings
