-- A logbook that has opened is sound.
use Rattle.std.proofs.Common.{◌≡◌, ℕ, zero, suc, ◌+◌, ◌*◌, ◌<◌, ◌≤◌, Bool, true, ◌&&◌, leb, List, [], ◌∷◌, ◌++◌, length, get_or, length-take, take, Some, None, Ok, Option, Result, sym, refl, ap, ◌∙◌, subst, ⊎_elim, add-one, arith}
use Rattle.std.proofs.lemmas.Bool.Decides.{nat_tests}
use Rattle.std.proofs.lemmas.Bool.{cases_Bool, cond-true, cond-false}
use Rattle.std.proofs.lemmas.List.{get_or-map}
use Rattle.fixed_vec.specs.Items.{joined}
use Rattle.fixed_vec.proofs.Rooms.{joined_all}
use Rattle.keys.specs.InWords.{WordKind, WordOrdered}
use Rattle.refusal.specs.declared.Refusal.{Refusal}
use Rattle.leaves.specs.Asking.{granted}
use Rattle.leaves.specs.Layout.{count_of, element, next_of, word}
use Rattle.leaves.specs.Opening.{greatest, open_answer}
use Rattle.books.specs.Opens.{AllFine, Leads, UpTo, lone}
use Rattle.books.specs.Bounds.{Bounded, Keys, bounds_of, value}
use Rattle.books.proofs.BoundLaws.{Busy, all_busy, opening_bounds_hold}
use Rattle.books.proofs.OpensLaws.{opens_from}
use Rattle.index.specs.declared.node.Entry.{Entry}
use Rattle.index.specs.Nodes.{bounds, entry, numbers}
use Rattle.index.specs.Search.{Above, Ascending, concat, front}
use Rattle.index.specs.Meaning.{built, grouped, grouped_in, listed}
use Rattle.index.specs.declared.table.Index.{Index}
use Rattle.std.specs.Option.{MatchOption}
use Rattle.index.specs.Shape.{singles}
use Rattle.tree.specs.Shape.{blank, built_shape, found_shape, groups, open_shape, open_told, paired, shape_of, tops, top_at, top_told}
use Rattle.tree.specs.Sound.{Fits, Sound}
use Rattle.tree.proofs.LocatedLaws.{counts}
use Rattle.tree.specs.declared.logbook.State.{State}
use Rattle.tree.specs.declared.logbook.State.TheVariants.{Blank, Open, Dark}

pub numbers_paired : (ks : List ℕ) (bs : List (ℕ × ℕ)) → length ks ≡ length bs → numbers (paired ks bs) ≡ ks
numbers_paired [] bs e = refl
numbers_paired (k ∷ ks) [] e = absurd (omega arith)
numbers_paired (k ∷ ks) (b ∷ bs) e = ap (λ xs. k ∷ xs) (numbers_paired ks bs (omega arith))

pub bounds_paired : (ks : List ℕ) (bs : List (ℕ × ℕ)) → length ks ≡ length bs → bounds (paired ks bs) ≡ bs
bounds_paired [] [] e = refl
bounds_paired [] (b ∷ bs) e = absurd (omega arith)
bounds_paired (k ∷ ks) [] e = absurd (omega arith)
bounds_paired (k ∷ ks) (b ∷ bs) e = ap (λ xs. b ∷ xs) (bounds_paired ks bs (omega arith))

pub length_tops : (o : WordKind) (m ks : List ℕ) → length ks ≡ length (tops o m ks)
length_tops o m [] = refl
length_tops o m (k ∷ ks) = ap suc (length_tops o m ks)

pub front_tops : (o : WordKind) (m ks : List ℕ) → front (tops o m ks) ≡ bounds_of o m ks
front_tops o m [] = refl
front_tops o m (k ∷ []) = refl
front_tops o m (k ∷ l ∷ ks) = ap (λ bs. value (greatest o m k (count_of m k)) ∷ bs) (front_tops o m (l ∷ ks))

module _ (o : WordKind) (m : List ℕ) where
  -- The greatest key is one of the counted keys.
  greatest_at : (k n : ℕ) → 0 < n → (s : ℕ) × (s < n) × (value (greatest o m k n) ≡ (element m k s).key)
  greatest_at k zero lt = absurd (omega arith)
  greatest_at k (suc zero) lt = (0, omega arith, refl)
  greatest_at k (suc (suc n)) lt =
      let (s, low, is) = greatest_at k (suc n) (omega arith) in
      ⊎_elim
      (λ t. (suc n, omega arith, cond-true (o.before (value (greatest o m k (suc n))) (element m k (suc n)).key) _ _ t))
      (λ f. (s, omega arith, cond-false (o.before (value (greatest o m k (suc n))) (element m k (suc n)).key) _ _ f ∙ is))
      (cases_Bool (o.before (value (greatest o m k (suc n))) (element m k (suc n)).key))

  above_tops : (b : ℕ × ℕ) (ks : List ℕ) → Busy m ks → Keys (λ x. o.before b x ≡ true) m ks → Above o b (bounds_of o m ks)
  above_tops b [] busy h = tt
  above_tops b (k ∷ []) busy h = tt
  above_tops b (k ∷ l ∷ ks) busy h =
      let (s, low, is) = greatest_at k (count_of m k) busy.0 in
      (subst (λ x. o.before b x ≡ true) (sym is) (h.0 s low), above_tops b (l ∷ ks) busy.1 h.1)

  ascending_tops : (ks : List ℕ) → Busy m ks → Bounded o m ks (bounds_of o m ks) → Ascending o (bounds_of o m ks)
  ascending_tops [] busy h = absurd h
  ascending_tops (k ∷ []) busy h = tt
  ascending_tops (k ∷ l ∷ ks) busy h = (above_tops _ (l ∷ ks) busy.1 h.1, ascending_tops (l ∷ ks) busy.1 h.2)

  ascending_fine : (ks : List ℕ) → AllFine o m (lone ks) None ks → Bounded o m ks (bounds_of o m ks) → Ascending o (bounds_of o m ks)
  ascending_fine [] fine h = absurd h
  ascending_fine (k ∷ []) fine h = tt
  ascending_fine (k ∷ l ∷ ks) fine h = ascending_tops (k ∷ l ∷ ks) (all_busy o m None (k ∷ l ∷ ks) fine) h

pub opened_fits : (o : WordKind) → WordOrdered o → (m ks : List ℕ) → open_answer o m ≡ Ok ks → Fits o m (paired ks (tops o m ks))
opened_fits o ordered m ks h =
    let opens = opens_from o m ks h in
    let bounded = opening_bounds_hold o ordered m ks h in
    let numbered = numbers_paired ks (tops o m ks) (length_tops o m ks) in
    let parted : front (bounds (paired ks (tops o m ks))) ≡ bounds_of o m ks = ap front (bounds_paired ks (tops o m ks) (length_tops o m ks)) ∙ front_tops o m ks in
    record {
      opens = h ∙ ap Ok (sym numbered);
      bounded = rw (numbered, parted) bounded;
      ascending = rw parted (ascending_fine o m ks opens.fine bounded);
    }

pub paired_more : (ks : List ℕ) (bs : List (ℕ × ℕ)) (i : ℕ) → i < length ks → i < length bs
    → paired (take (suc i) ks) (take (suc i) bs) ≡ paired (take i ks) (take i bs) ++ (entry (get_or ks i 0) (get_or bs i (0, 0)) ∷ [])
paired_more [] bs i h g = absurd (omega arith)
paired_more (k ∷ ks) [] i h g = absurd (omega arith)
paired_more (k ∷ ks) (b ∷ bs) zero h g = refl
paired_more (k ∷ ks) (b ∷ bs) (suc i) h g = ap (λ xs. entry k b ∷ xs) (paired_more ks bs i (omega arith) (omega arith))

pub length_paired : (ks : List ℕ) (bs : List (ℕ × ℕ)) → length ks ≡ length bs → length (paired ks bs) ≡ length ks
length_paired [] bs e = refl
length_paired (k ∷ ks) [] e = absurd (omega arith)
length_paired (k ∷ ks) (b ∷ bs) e = ap suc (length_paired ks bs (omega arith))

-- One turn of taking up the leaves of a chain: there is room, and one entry more.
module _ (ks : List ℕ) (bs : List (ℕ × ℕ)) (es : List Entry) (i : ℕ) (h : i < length ks) (same : length ks ≡ length bs) (few : length ks < 64) (was : es ≡ paired (take i ks) (take i bs)) where
  pub room_left : length es < 64
  room_left =
      let front = length-take i ks in
      let other = length-take i bs in
      omega (arith, ap length was ∙ length_paired (take i ks) (take i bs) (omega arith))

  pub entries_more : (e : Entry) (more : List Entry) → e ≡ entry (get_or ks i 0) (get_or bs i (0, 0)) → more ≡ joined 64 es (e ∷ []) → more ≡ paired (take (i + 1) ks) (take (i + 1) bs)
  entries_more e more is push =
      let full = room_left in
      push ∙ joined_all 64 es (e ∷ []) (omega arith) ∙ rw (was, is, add-one) (sym (paired_more ks bs i h (omega arith)))

-- The greatest key of a leaf of an opened chain, asked from outside.
asked_top : (o : WordKind) (m : List ℕ) (link n : ℕ) (alone : Bool) (bound : Option (ℕ × ℕ)) (ks : List ℕ) (i : ℕ) → i < length ks → Leads m link ks → UpTo n ks → AllFine o m alone bound ks → n ≤ 64 → 8 + 72 * n ≤ length m
    → top_at o m (get_or ks i 0) ≡ value (greatest o m (get_or ks i 0) (count_of m (get_or ks i 0)))
asked_top o m link n alone bound [] i lt leads within fine most fits = absurd (omega arith)
asked_top o m link n alone bound (k ∷ ks) zero lt leads within fine most fits =
    ap (λ (r : Result ℕ Refusal). top_told (granted r (greatest o m k))) (counts m k leads.1 (omega (arith, within.0)) (omega (arith, within.0)) fine.0.few)
asked_top o m link n alone bound (k ∷ ks) (suc i) lt leads within fine most fits =
    asked_top o m (next_of m k) n alone (greatest o m k (count_of m k)) ks i (omega arith) leads.2 within.1 fine.1 most fits

-- The leaves of an opened chain.
module _ (o : WordKind) (m ks : List ℕ) (opened : open_answer o m ≡ Ok ks) where
  pub in_chain : (0 < length ks) × (length ks < 64)
  in_chain = let opens = opens_from o m ks opened in (opens.some, omega (arith, opens.spare, opens.most))

  pub top_is : (i : ℕ) → i < length ks → top_at o m (get_or ks i 0) ≡ get_or (tops o m ks) i (0, 0)
  top_is i lt =
      let opens = opens_from o m ks opened in
      let top = asked_top o m (word m 2) (word m 3) (lone ks) None ks i lt opens.leads opens.within opens.fine opens.most opens.fits in
      top ∙ sym (get_or-map (λ k. value (greatest o m k (count_of m k))) ks i 0 (0, 0) lt)

  -- The index that is built of them.
  pub built_is : (es : List Entry) (made : Option (List (List Entry))) → es ≡ paired ks (tops o m ks) → made ≡ built es
      → made ≡ Some (singles (paired ks (tops o m ks)))
  built_is es made is build =
      let long : length es ≡ length ks = ap length is ∙ length_paired ks (tops o m ks) (length_tops o m ks) in
      let test : (leb 1 (length es) && leb (length es) 64) ≡ true = (let few = in_chain in grind (arith, nat_tests)) in
      build ∙ cond-true (leb 1 (length es) && leb (length es) 64) (Some (singles es)) None test ∙ ap (λ (xs : List Entry). Some (singles xs)) is

  pub shape_built : groups (singles (paired ks (tops o m ks))) ≡ built_shape ks (tops o m ks)
  shape_built =
      let test : (leb 1 (length ks) && leb (length ks) 64) ≡ true = (let few = in_chain in grind (arith, nat_tests)) in
      sym (cond-true (leb 1 (length ks) && leb (length ks) 64) (groups (singles (paired ks (tops o m ks)))) blank test)

-- The state that such an index makes.
pub shape_made : (made : Option Index) (r : State) (gs : List (List Entry)) → grouped_in made ≡ Some gs → MatchOption made (r ≡ Blank) (λ x. r ≡ Open x) → shape_of r ≡ groups gs
shape_made None r gs e is = let z : ◌≡◌ {A = ℕ} 0 1 = cc in absurd (omega arith)
shape_made (Some x) r gs e is = rw is (let f : grouped x ≡ gs = cc in ap groups f)

pub concat_singles : (es : List Entry) → concat (singles es) ≡ es
concat_singles [] = refl
concat_singles (e ∷ es) = ap (λ xs. e ∷ xs) (concat_singles es)

pub same_groups : (a b : List (List Entry)) → groups a ≡ groups b → a ≡ b
same_groups a b e = cc

-- What opening leaves, from what it found.
module _ (o : WordKind) (ordered : WordOrdered o) (m ks : List ℕ) (bs : List (ℕ × ℕ)) (found : Ok ks ≡ open_answer o m) (bounded : bs ≡ tops o m ks) where
  few : (0 < length ks) × (length ks ≤ 64)
  few = let opens = opens_from o m ks (sym found) in (opens.some, omega (arith, opens.spare, opens.most))

  built_all : built_shape ks bs ≡ groups (singles (paired ks (tops o m ks)))
  built_all = let f = few in cond-true (leb 1 (length ks) && leb (length ks) 64) _ _ (grind (arith, nat_tests)) ∙ ap (λ (xs : List (ℕ × ℕ)). groups (singles (paired ks xs))) bounded

  pub told_open : (s : State) → (s ≡ Dark → ⊥) → Ok tt ≡ open_told s (open_answer o m)
  told_open Blank h = ap (open_told Blank) found
  told_open (Open x) h = ap (open_told (Open x)) found
  told_open Dark h = absurd (h refl)

  pub shaped_open : (s r : State) → (s ≡ Dark → ⊥) → shape_of r ≡ built_shape ks bs → shape_of r ≡ open_shape o m s
  shaped_open Blank r h e = e ∙ built_all ∙ ap (found_shape o m) found
  shaped_open (Open x) r h e = e ∙ built_all ∙ ap (found_shape o m) found
  shaped_open Dark r h e = absurd (h refl)

  pub sound_open : (r : State) → shape_of r ≡ built_shape ks bs → Sound o m r
  sound_open Blank e = tt
  sound_open (Open x) e =
      let is : listed x ≡ paired ks (tops o m ks) = ap concat (same_groups _ _ (e ∙ built_all)) ∙ concat_singles (paired ks (tops o m ks)) in
      subst (Fits o m) (sym is) (opened_fits o ordered m ks (sym found))
  sound_open Dark e = tt
