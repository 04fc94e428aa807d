-- A rewrite of a book's leaves with a call's elements is right, and comes to what the call does to the book.
use Rattle.std.proofs.Common.{◌≡◌, ℕ, Bool, true, false, ◌&&◌, eqb, List, [], ◌∷◌, ◌++◌, None, Option, sym, ap, ◌∙◌, append_assoc, arith}
use Rattle.std.proofs.lemmas.Bool.{and_parts, cond_both}
use Rattle.keys.specs.InWords.{WordKind, WordOrdered}
use Rattle.leaves.specs.declared.leaf.Pair.{Pair}
use Rattle.leaves.specs.Layout.{element, count_of}
use Rattle.leaves.specs.Pairs.{applied, pairs}
use Rattle.leaves.specs.Opening.{after, greatest}
use Rattle.leaves.specs.Ascent.{Each, Ascending, all_pairs}
use Rattle.leaves.proofs.AscentLaws.{each_pairs, each_insert, each_delete, ascending_insert, ascending_delete, ascending_pairs}
use Rattle.leaves.proofs.BookLaws.{key_before, each_append, ascending_append, book_ascends}
use Rattle.books.specs.Footprint.{book}
use Rattle.books.specs.Opens.{AllFine, lone, Opens}
use Rattle.books.specs.Bounds.{Keys}
use Rattle.appends.specs.Append.{signed, all_applied}
use Rattle.rewrites.specs.Rewrite.{Filling, contents, Replaces, Rewritable, Rewritings}
use Rattle.books.proofs.OpensLaws.{opens_from}
use Rattle.books.proofs.BoundLaws.{fine_past}
use Rattle.books.proofs.QuestionLaws.{all_pairs_append, keys_each, linked_is}
use Rattle.appends.proofs.AppendBook.{all_applied_between}
use Rattle.rewrites.proofs.NewLeaves.{fine_drop}
use Rattle.rewrites.proofs.KeyLists.{ascending_right, ascending_left, keys_left, keys_right, keys_all, keys_both, keys_swap}
use Rattle.rewrites.proofs.RewriteLaws as laws

module _ (o : WordKind) (ordered : WordOrdered o) (m : List ℕ) where
  -- Every counted key of the first leaves is before every one of the others.
  pub keys_cross : (bound : Option (ℕ × ℕ)) (xs ys : List ℕ) → AllFine o m false bound (xs ++ ys) → Keys (λ y. Keys (λ x. o.before x y ≡ true) m xs) m ys
  keys_cross bound [] ys h = keys_all m _ (λ y. tt) ys
  keys_cross bound (k ∷ xs) ys h =
      keys_both m (λ y. after o (greatest o m k (count_of m k)) y ≡ true) (λ y. Keys (λ x. o.before x y ≡ true) m xs) (λ y. Keys (λ x. o.before x y ≡ true) m (k ∷ xs)) (λ y more rest. ((λ s l. key_before o ordered m k (count_of m k) s l y more), rest)) ys
      (keys_right m (λ x. after o (greatest o m k (count_of m k)) x ≡ true) xs ys (fine_past o ordered m (greatest o m k (count_of m k)) (xs ++ ys) h.1)) (keys_cross (greatest o m k (count_of m k)) xs ys h.1)

  keys_valid : (alone : Bool) (bound : Option (ℕ × ℕ)) (ks : List ℕ) → AllFine o m alone bound ks → Keys (λ x. o.valid x ≡ true) m ks
  keys_valid alone bound [] h = tt
  keys_valid alone bound (k ∷ ks) h = (
    λ s l. (and_parts (o.valid (element m k s).key) _ (and_parts (o.valid (element m k s).key && after o bound (element m k s).key) _ (h.0.each s l)).0).0,
    keys_valid alone (greatest o m k (count_of m k)) ks h.1,
  )

  each_applied : (P : ℕ × ℕ → Type 0) (w : ℕ × ℕ) (xs : List (ℕ × ℕ)) (ps : List Pair) → P w → Each P ps → Each P (all_applied o w xs ps)
  each_applied P w [] ps at h = h
  each_applied P w (x ∷ xs) ps at h =
      each_applied P w xs (applied o (signed w x) ps) at (cond_both (eqb x.0 1) _ _ (Each P) (λ _. each_insert o P _ ps at h) (λ _. each_delete o P w ps h))

  ascending_applied : (w : ℕ × ℕ) (xs : List (ℕ × ℕ)) (ps : List Pair) → Ascending o ps → Ascending o (all_applied o w xs ps)
  ascending_applied w [] ps h = h
  ascending_applied w (x ∷ xs) ps h =
      ascending_applied w xs (applied o (signed w x) ps) (cond_both (eqb x.0 1) _ _ (Ascending o) (λ _. ascending_insert o ordered _ ps h) (λ _. ascending_delete o ordered w ps h))

-- The order of counted keys around leaf k and the leaves that merge with it.
record Parted (o : WordKind) (m pre : List ℕ) (k : ℕ) (more post : List ℕ) : Type 0 where
  above : Keys (λ x. Keys (λ y. o.before y x ≡ true) m pre) m (k ∷ more)
  below : Keys (λ x. Keys (λ y. o.before x y ≡ true) m post) m (k ∷ more)
  across : Keys (λ x. Keys (λ y. o.before x y ≡ true) m more) m (k ∷ [])

module _ (o : WordKind) (ordered : WordOrdered o) (m : List ℕ) where
  parted_row : (pre : List ℕ) (k : ℕ) (more post : List ℕ) → AllFine o m false None (pre ++ ((k ∷ more) ++ post)) → Parted o m pre k more post
  parted_row pre k more post h =
      let (x, rest) = fine_drop o m false None pre ((k ∷ more) ++ post) h in
      record {
        above = keys_left m (λ x. Keys (λ y. o.before y x ≡ true) m pre) (k ∷ more) post (keys_cross o ordered m None pre ((k ∷ more) ++ post) h);
        below = keys_swap m (λ x y. o.before x y ≡ true) (k ∷ more) post (keys_cross o ordered m x (k ∷ more) post rest);
        across = keys_swap m (λ x y. o.before x y ≡ true) (k ∷ []) more (keys_left m (λ y. Keys (λ x. o.before x y ≡ true) m (k ∷ [])) more post (keys_cross o ordered m x (k ∷ []) (more ++ post) rest));
      }

  parted : (pre : List ℕ) (k : ℕ) (more post : List ℕ) → AllFine o m (lone (pre ++ ((k ∷ more) ++ post))) None (pre ++ ((k ∷ more) ++ post)) → Parted o m pre k more post
  parted [] k [] [] h = record { above = (λ s l. tt, tt); below = (λ s l. tt, tt); across = (λ s l. tt, tt) }
  parted [] k [] (x ∷ post) h = parted_row [] k [] (x ∷ post) h
  parted [] k (x ∷ more) post h = parted_row [] k (x ∷ more) post h
  parted (x ∷ []) k more post h = parted_row (x ∷ []) k more post h
  parted (x ∷ y ∷ pre) k more post h = parted_row (x ∷ y ∷ pre) k more post h

  module _ (pre : List ℕ) (k : ℕ) (more post : List ℕ) (w : ℕ × ℕ) (xs : List (ℕ × ℕ)) (fs : List Filling) (r : Rewritable o m pre k more post w xs fs) where
    opens : Opens o m (pre ++ ((k ∷ more) ++ post))
    opens = opens_from o m (pre ++ ((k ∷ more) ++ post)) r.belongs.opens

    order : Parted o m pre k more post
    order = parted pre k more post opens.fine

    -- What holds of w and of all old keys of the leaves that go holds of all that the new leaves take.
    pub each_taken : (P : ℕ × ℕ → Type 0) → P w → Keys P m (k ∷ more) → Each P (contents fs)
    each_taken P at h =
        rw r.taken (each_append o ordered m P (all_applied o w xs (pairs o m k (count_of m k))) (all_pairs o m more)
        (each_applied o ordered m P w xs (pairs o m k (count_of m k)) at (each_pairs o P m k (count_of m k) h.0))
        (keys_each o ordered P m more h.1))

    more_ascends : Ascending o (all_pairs o m more)
    more_ascends =
        let all = book_ascends o ordered m (pre ++ ((k ∷ more) ++ post)) r.belongs.opens in
        let rest = ascending_right o (all_pairs o m pre) _ (rw (all_pairs_append o m pre ((k ∷ more) ++ post)) at all) in
        let later = ascending_right o (pairs o m k (count_of m k)) (all_pairs o m (more ++ post)) rest in
        ascending_left o (all_pairs o m more) (all_pairs o m post) (rw (all_pairs_append o m more post) at later)

    pub taken_ascends : Ascending o (contents fs)
    taken_ascends =
        rw r.taken (ascending_append o ordered m (all_applied o w xs (pairs o m k (count_of m k))) (all_pairs o m more)
        (ascending_applied o ordered m w xs (pairs o m k (count_of m k)) (ascending_pairs o ordered m k (count_of m k))) more_ascends
        (each_applied o ordered m (λ x. Each (λ y. o.before x y ≡ true) (all_pairs o m more)) w xs (pairs o m k (count_of m k))
        (keys_each o ordered (λ y. o.before w y ≡ true) m more (keys_left m (λ y. o.before w y ≡ true) more post r.belongs.below))
        (each_pairs o _ m k (count_of m k) (λ s l. keys_each o ordered (λ y. o.before (element m k s).key y ≡ true) m more (order.across.0 s l)))))

    pub replaces : Replaces o m pre (k ∷ more) post fs
    replaces =
        let (x, rest) = fine_drop o m _ None pre ((k ∷ more) ++ post) opens.fine in
        record {
          opens = r.belongs.opens;
          gone = omega arith;
          placed = r.placed;
          valid = each_taken (λ y. o.valid y ≡ true) r.valid (keys_left m (λ y. o.valid y ≡ true) (k ∷ more) post (keys_valid o ordered m _ x ((k ∷ more) ++ post) rest));
          ascends = taken_ascends;
          above = each_taken (λ x. Keys (λ y. o.before y x ≡ true) m pre) r.belongs.above order.above;
          below = each_taken (λ x. Keys (λ y. o.before x y ≡ true) m post) (keys_right m (λ y. o.before w y ≡ true) more post r.belongs.below) order.below;
        }

    -- The elements work on the pairs of leaf k alone.
    pub book_taken : all_pairs o m pre ++ (contents fs ++ all_pairs o m post) ≡ all_applied o w xs (book o m)
    book_taken =
        let here = pairs o m k (count_of m k) in
        let is : book o m ≡ all_pairs o m pre ++ (here ++ all_pairs o m (more ++ post)) = ap (all_pairs o m) (linked_is o ordered m (pre ++ ((k ∷ more) ++ post)) r.belongs.opens) ∙ all_pairs_append o m pre ((k ∷ more) ++ post) in
        let between = all_applied_between o ordered w (all_pairs o m pre) (all_pairs o m (more ++ post)) (keys_each o ordered _ m pre r.belongs.above) (keys_each o ordered _ m (more ++ post) r.belongs.below) xs here in
        rw r.taken (ap (λ ps. all_pairs o m pre ++ ps) (append_assoc (all_applied o w xs here) (all_pairs o m more) (all_pairs o m post) ∙ ap (λ ps. all_applied o w xs here ++ ps) (sym (all_pairs_append o m more post))))
        ∙ (sym between ∙ ap (all_applied o w xs) (sym is))

pub rewritings_hold : Rewritings
rewritings_hold o ordered m pre k more post w xs fs r =
    let p = replaces o ordered m pre k more post w xs fs r in
    record {
      guards = laws.guards o ordered m pre (k ∷ more) post fs p;
      proper = laws.proper o ordered m pre (k ∷ more) post fs p;
      differs = laws.differs o ordered m pre (k ∷ more) post fs p;
      done = (laws.rewritten_opens o ordered m pre (k ∷ more) post fs p, laws.rewritten_book o ordered m pre (k ∷ more) post fs p ∙ book_taken o ordered m pre k more post w xs fs r);
    }
