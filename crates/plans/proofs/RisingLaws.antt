-- The bounds of a sound tree rise.
use Rattle.std.proofs.Common.{◌≡◌, ℕ, zero, suc, ◌<◌, true, false, List, [], ◌∷◌, length, get_or, None, sym, subst, ⊎_elim, arith}
use Rattle.std.proofs.lemmas.Bool.{cases_Bool}
use Rattle.std.specs.List.{AllPairs}
use Rattle.keys.specs.InWords.{WordKind, WordOrdered}
use Rattle.leaves.specs.Layout.{element}
use Rattle.books.specs.Bounds.{Keys, Bounded}
use Rattle.books.specs.Opens.{AllFine, lone}
use Rattle.books.proofs.BoundLaws.{Busy, all_busy}
use Rattle.books.proofs.OpensLaws.{opens_from}
use Rattle.plans.specs.Laws.{BoundsRise}

module _ (o : WordKind) (ordered : WordOrdered o) (m : List ℕ) where
  between : (b c x : ℕ × ℕ) → o.before b x ≡ true → o.before c x ≡ false → o.before b c ≡ true
  between b c x low high = ⊎_elim (λ t. ordered.transitive b x c low t) (λ f. subst (λ y. o.before b y ≡ true) (sym (ordered.connected c x high f)) low) (cases_Bool (o.before x c))

  -- Between two bounds stands a counted key.
  above : (b : ℕ × ℕ) (ks : List ℕ) (bs : List (ℕ × ℕ)) → Busy m ks → Keys (λ x. o.before b x ≡ true) m ks → Bounded o m ks bs → (i : ℕ) (d : ℕ × ℕ) → i < length bs → o.before b (get_or bs i d) ≡ true
  above b [] bs busy keys h i d l = absurd h
  above b (k ∷ []) [] busy keys h i d l = absurd (omega arith)
  above b (k ∷ []) (c ∷ bs) busy keys h i d l = absurd h
  above b (k ∷ j ∷ ks) [] busy keys h i d l = absurd h
  above b (k ∷ j ∷ ks) (c ∷ bs) busy keys h zero d l = between b c (element m k 0).key (keys.0 0 busy.0) (h.0 0 busy.0)
  above b (k ∷ j ∷ ks) (c ∷ bs) busy keys h (suc i) d l = above b (j ∷ ks) bs busy.1 keys.1 h.2 i d (omega arith)

  rise : (ks : List ℕ) (bs : List (ℕ × ℕ)) → Busy m ks → Bounded o m ks bs → AllPairs (λ b c. o.before b c ≡ true) bs
  rise [] bs busy h i j d lt l = absurd h
  rise (k ∷ []) [] busy h i j d lt l = absurd (omega arith)
  rise (k ∷ []) (c ∷ bs) busy h i j d lt l = absurd h
  rise (k ∷ n ∷ ks) [] busy h i j d lt l = absurd h
  rise (k ∷ n ∷ ks) (c ∷ bs) busy h i zero d lt l = absurd (omega arith)
  rise (k ∷ n ∷ ks) (c ∷ bs) busy h zero (suc j) d lt l = above c (n ∷ ks) bs busy.1 h.1 h.2 j d (omega arith)
  rise (k ∷ n ∷ ks) (c ∷ bs) busy h (suc i) (suc j) d lt l = rise (n ∷ ks) bs busy.1 h.2 i j d (omega arith) (omega arith)

  rise_fine : (ks : List ℕ) (bs : List (ℕ × ℕ)) → AllFine o m (lone ks) None ks → Bounded o m ks bs → AllPairs (λ b c. o.before b c ≡ true) bs
  rise_fine [] bs fine h = absurd h
  rise_fine (k ∷ []) [] fine h = λ i j d lt l. absurd (omega arith)
  rise_fine (k ∷ []) (c ∷ bs) fine h = absurd h
  rise_fine (k ∷ n ∷ ks) bs fine h = rise (k ∷ n ∷ ks) bs (all_busy o m None (k ∷ n ∷ ks) fine) h

pub bounds_rise_hold : BoundsRise
bounds_rise_hold o ordered m t sound = rise_fine o ordered m t.leaves t.bounds (opens_from o m t.leaves sound.opens).fine sound.bounded
