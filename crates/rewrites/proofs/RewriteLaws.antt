-- A replacement of leaves is a turn.
use Rattle.std.proofs.Common.{◌≡◌, ℕ, ◌+◌, ◌<◌, ◌≤◌, true, false, ◌&&◌, ltb, leb, ◌⊎◌, List, [], ◌∷◌, ◌++◌, length, get_or, None, Ok, Option, sym, refl, ap, ◌∙◌, subst, inl, inr, ⊎_elim, arith, get_or-set_other, get_or-set_same}
use Rattle.std.proofs.lemmas.Bool.{and_parts, or_cases, ltb-true, leb-true}
use Rattle.keys.specs.InWords.{WordKind, WordOrdered}
use Rattle.leaves.specs.Layout.{word, leaf_at, slot_at, count_of}
use Rattle.leaves.specs.Opening.{member, open_answer}
use Rattle.leaves.specs.Ascent.{Each, all_pairs}
use Rattle.leaves.proofs.AscentLaws.{each_map}
use Rattle.writes.specs.Writes.{finished, Proper, single}
use Rattle.writes.specs.Laws.{New, Guards}
use Rattle.writes.proofs.Cuts.{length_finished, finished_spares, finished_last}
use Rattle.writes.proofs.Places.{proper_append}
use Rattle.books.specs.Footprint.{book, in_leaf, in_leaves, footprint}
use Rattle.books.specs.Opens.{Leads, UpTo, Distinct, AllFine, lone, Opens}
use Rattle.books.specs.Bounds.{Keys}
use Rattle.books.proofs.BoundLaws.{all_busy}
use Rattle.books.proofs.FootprintLaws.{holds, SameLeaves, KeptLeaf, KeptLeaves, all_pairs_kept}
use Rattle.books.proofs.QuestionLaws.{all_pairs_append, linked_is}
use Rattle.appends.proofs.AppendWords.{element_same}
use Rattle.appends.proofs.AppendLaws.{told, Sized, sized, leads_same}
use Rattle.rewrites.specs.Rewrite.{Filling, leaf_numbers, contents, leaves_lines, first_leaf, link_at, link_commit, rewrite_lines, Fillings, Replaces, Replacements}
use Rattle.books.proofs.OpensLaws.{opens_from, opens_to, Apart}
use Rattle.rewrites.proofs.LeafLists.{member_parts, distinct_split, distinct_replaced, apart_swap, apart_parts, up_to_left, up_to_right, up_to_from, sized_left, sized_right, fillings_map, free_apart, numbers_up_to}
use Rattle.rewrites.proofs.LinkLaws.{Links, leads_relinked, leads_rest, leads_first, link_leaf, LinkPlace, link_place, link_footprint, link_differs}
use Rattle.rewrites.proofs.NewLeaves.{AllFilled, Fresh, leads_filled, all_fine_busy, around, new_pairs, replaced_fine}
use Rattle.rewrites.proofs.NewWords.{Off, off_other, off_others, leaves_lines_spare, leaves_lines_proper, leaves_lines_filled, all_filled_set}

off_low : (i : ℕ) (fs : List Filling) → i < 8 → Fillings (λ f. Off f.leaf i) fs
off_low i [] h = tt
off_low i (f ∷ fs) h = (inl (omega arith), off_low i fs h)

off_linked : (pre : List ℕ) (p i : ℕ) (fs : List Filling) → 1 ≤ p → i ≡ leaf_at p → (member p pre ≡ false → ⊥) → Fillings (λ f. 1 ≤ f.leaf) fs → Fillings (λ f. member f.leaf pre ≡ false) fs → Fillings (λ f. Off f.leaf i) fs
off_linked pre p i [] some is in_it a b = tt
off_linked pre p i (f ∷ fs) some is in_it a b = (off_other f.leaf p i a.0 some (λ e. in_it (rw e at b.0)) (omega arith) (omega arith), off_linked pre p i fs some is in_it a.1 b.1)

leaf_inside : (m : List ℕ) (j i : ℕ) → count_of m j ≤ 16 → in_leaf m j i ≡ true → (leaf_at j ≤ i) × (i < leaf_at j + 72)
leaf_inside m j i few h =
    ⊎_elim
    (λ head.
    let (a, b) = and_parts (leb (leaf_at j) i) _ head in
    let a' = leb-true (leaf_at j) i a in
    let b' = ltb-true i (leaf_at j + 3) b in (omega arith, omega arith))
    (λ slot.
    let (a, b) = and_parts (leb (slot_at j 0) i) _ slot in
    let a' = leb-true (slot_at j 0) i a in
    let b' = ltb-true i (slot_at j (count_of m j)) b in (omega arith, omega arith))
    (or_cases (leb (leaf_at j) i && ltb i (leaf_at j + 3)) _ h)

-- A word of linked leaves is off all others.
leaves_off : (m ks : List ℕ) (fs : List Filling) (i : ℕ) → Sized m ks → Fillings (λ f. 1 ≤ f.leaf) fs → Apart (leaf_numbers fs) ks → in_leaves m ks i ≡ true → Fillings (λ f. Off f.leaf i) fs
leaves_off m [] fs i sizes some apart h = let z : ◌≡◌ {A = ℕ} 0 1 = cc in absurd (omega arith)
leaves_off m (j ∷ ks) fs i sizes some apart h =
    ⊎_elim
    (λ here. let (l, u) = leaf_inside m j i sizes.2 here in off_others j i fs sizes.0 some apart.0 l u)
    (leaves_off m ks fs i sizes.3 some apart.1) (or_cases (in_leaf m j i) _ h)

all_fine : (o : WordKind) → WordOrdered o → (a b pre post : List ℕ) (fs : List Filling) → 0 < length fs → KeptLeaves a b pre → KeptLeaves a b post
    → AllFine o b false None pre → (x : Option (ℕ × ℕ)) → AllFine o b false x post → Fresh o a b post fs → Each (λ k. Keys (λ y. o.before y k ≡ true) b pre) (contents fs)
    → AllFine o a false None (pre ++ (leaf_numbers fs ++ post))
all_fine o ordered a b pre post [] l kept_pre kept_post fine x rest new above = absurd (omega arith)
all_fine o ordered a b pre post (f ∷ fs) l kept_pre kept_post fine x rest new above =
    replaced_fine o ordered a b post kept_post x rest None pre f fs kept_pre fine new (each_map o _ _ (λ k _. refl) (contents (f ∷ fs)) new.valid) above

some_replaced : (pre post : List ℕ) (fs : List Filling) → 0 < length fs → 0 < length (pre ++ (leaf_numbers fs ++ post))
some_replaced [] post [] l = absurd (omega arith)
some_replaced [] post (f ∷ fs) l = omega arith
some_replaced (k ∷ pre) post fs l = omega arith

module _ (o : WordKind) (ordered : WordOrdered o) (m pre old post : List ℕ) (fs : List Filling) (r : Replaces o m pre old post fs) where
  -- The words once all is done, and the leaves that they open to.
  abbrev pub rewritten : List ℕ
  rewritten = finished m (rewrite_lines pre fs post)

  abbrev js : List ℕ
  js = pre ++ (leaf_numbers fs ++ post)

  pub opens : Opens o m (pre ++ (old ++ post))
  opens = opens_from o m (pre ++ (old ++ post)) r.opens

  all_sized : Sized m (pre ++ (old ++ post))
  all_sized = sized o m _ None (word m 2) (pre ++ (old ++ post)) opens.leads opens.within opens.fine

  pre_sized : Sized m pre
  pre_sized = sized_left m pre (old ++ post) all_sized

  post_sized : Sized m post
  post_sized = sized_right m old post (sized_right m pre (old ++ post) all_sized)

  firsts : Fillings (λ f. 1 ≤ f.leaf) fs
  firsts = fillings_map _ _ (λ f h. h.0) fs r.placed.within

  inside : Fillings (λ f. leaf_at f.leaf + 72 ≤ length m) fs
  inside = let all = opens.fits in fillings_map _ _ (λ f h. let a = h.0 in let b = h.1 in omega arith) fs r.placed.within

  apart : Apart (leaf_numbers fs) (pre ++ (old ++ post))
  apart = apart_swap (leaf_numbers fs) (pre ++ (old ++ post)) (free_apart (pre ++ (old ++ post)) fs r.placed.free)

  place : LinkPlace m 2 pre
  place = link_place m 2 pre pre_sized

  link_off : Fillings (λ f. Off f.leaf (link_at 2 pre)) fs
  link_off =
      ⊎_elim (λ e. rw e (off_low 2 fs (omega arith)))
      (λ h. off_linked pre h.0 (link_at 2 pre) fs h.1 h.3 h.4 firsts (fillings_map _ _ (λ f free. (member_parts f.leaf pre (old ++ post) free).0) fs r.placed.free))
      place

  link_inside : link_at 2 pre < length m
  link_inside =
      let all = opens.fits in
      let long = opens.long in
      ⊎_elim (λ e. omega arith) (λ h. let a = h.1 in let b = h.2 in let c = h.3 in omega arith) place

  -- The new leaves and the link aside, every word stays.
  unchanged : (i : ℕ) → Fillings (λ f. Off f.leaf i) fs → (i ≡ link_at 2 pre → ⊥) → get_or rewritten i 0 ≡ get_or m i 0
  unchanged i off other =
      rw (finished_last m (leaves_lines fs post) (link_commit pre fs post))
      (get_or-set_other (finished m (leaves_lines fs post)) (link_at 2 pre) i _ 0 other ∙ finished_spares m (leaves_lines fs post) i (leaves_lines_spare fs post i r.placed.filled off))

  link_new : word rewritten (link_at 2 pre) ≡ first_leaf (leaf_numbers fs ++ post)
  link_new =
      let l = link_inside in
      let long = length_finished m (leaves_lines fs post) in
      rw (finished_last m (leaves_lines fs post) (link_commit pre fs post)) (get_or-set_same (finished m (leaves_lines fs post)) (link_at 2 pre) _ 0 (omega arith))

  all_filled : AllFilled rewritten post fs
  all_filled =
      subst (λ (x : List ℕ). AllFilled x post fs) (sym (finished_last m (leaves_lines fs post) (link_commit pre fs post)))
      (all_filled_set (finished m (leaves_lines fs post)) post fs (link_at 2 pre) _ r.placed.filled link_off (leaves_lines_filled m fs post r.placed.filled firsts inside r.placed.distinct))

  -- A leaf that stays linked keeps all but perhaps its next.
  within_leaf : (j i : ℕ) → 1 ≤ j → member j (leaf_numbers fs) ≡ false → leaf_at j < i → i < leaf_at j + 72 → get_or rewritten i 0 ≡ get_or m i 0
  within_leaf j i some other l u =
      unchanged i (off_others j i fs some firsts other (omega arith) u)
      (λ e. ⊎_elim (λ z. omega arith) (λ h. let a = h.1 in let b = h.3 in omega arith) place)

  kept_leaf : (j : ℕ) → 1 ≤ j → count_of m j ≤ 16 → member j (leaf_numbers fs) ≡ false → KeptLeaf rewritten m j
  kept_leaf j some few other = record {
    count = within_leaf j (leaf_at j + 1) some other (omega arith) (omega arith);
    form = within_leaf j (leaf_at j + 2) some other (omega arith) (omega arith);
    each = λ s l. element_same j (0, 0) rewritten m s (λ i a b. within_leaf j i some other (omega arith) (omega arith));
  }

  kept_leaves : (js : List ℕ) → Sized m js → Apart (leaf_numbers fs) js → KeptLeaves rewritten m js
  kept_leaves [] sizes other = tt
  kept_leaves (j ∷ js) sizes other = (kept_leaf j sizes.0 sizes.2 other.0, kept_leaves js sizes.3 other.1)

  pre_apart : Apart (leaf_numbers fs) pre
  pre_apart = apart_left pre (old ++ post) apart
    where
      apart_left : (xs ys : List ℕ) → Apart (leaf_numbers fs) (xs ++ ys) → Apart (leaf_numbers fs) xs
      apart_left [] ys h = tt
      apart_left (x ∷ xs) ys h = (h.0, apart_left xs ys h.1)

  post_apart : Apart (leaf_numbers fs) post
  post_apart = apart_right old post (apart_right pre (old ++ post) apart)
    where
      apart_right : (xs ys : List ℕ) → Apart (leaf_numbers fs) (xs ++ ys) → Apart (leaf_numbers fs) ys
      apart_right [] ys h = h
      apart_right (x ∷ xs) ys h = apart_right xs ys h.1

  -- The leaves after the new ones keep their next too.
  same_after : (js : List ℕ) → Sized m js → Apart (leaf_numbers fs) js → Apart pre js → SameLeaves rewritten m js
  same_after [] sizes other not_pre = tt
  same_after (j ∷ js) sizes other not_pre =
      let kept = kept_leaf j sizes.0 sizes.2 other.0 in (
        record {
          next = unchanged (leaf_at j) (off_others j (leaf_at j) fs sizes.0 firsts other.0 (omega arith) (omega arith))
              (λ e. ⊎_elim (λ z. omega arith) (λ h. let same : j ≡ h.0 = (let a = h.1 in let b = h.3 in let c = sizes.0 in omega arith) in h.4 (rw same at not_pre.0)) place);
          count = kept.count;
          form = kept.form;
          each = kept.each;
        },
        same_after js sizes.3 other.1 not_pre.1,
      )

  post_same : SameLeaves rewritten m post
  post_same =
      let (_, _, rest_pre) = distinct_split pre (old ++ post) opens.distinct in
      same_after post post_sized post_apart (apart_swap pre post (apart_parts old post pre rest_pre).1)

  -- The links before the last.
  links : (at : ℕ) (js : List ℕ) → link_at at js ≡ link_at 2 pre → Sized m js → Distinct js → Apart (leaf_numbers fs) js
      → (at ≡ 2) ⊎ ((q : ℕ) × (1 ≤ q) × (at ≡ leaf_at q) × (member q js ≡ false) × (member q (leaf_numbers fs) ≡ false)) → Links rewritten m at js
  links at [] is sizes distinct other from = tt
  links at (k ∷ js) is sizes distinct other from = (
    ⊎_elim
        (λ z. unchanged at (off_low at fs (omega arith)) (λ e. let (p, a, b, c, d) = link_leaf m k js sizes in omega arith))
        (λ h. unchanged at (off_others h.0 at fs h.1 firsts h.4 (let a = h.2 in omega arith) (let a = h.2 in omega arith))
        (λ e.
        let (p, a, b, c, d) = link_leaf m k js sizes in
        let same : h.0 ≡ p = (let x = h.1 in let y = h.2 in omega arith) in
        d (subst (λ x. member x (k ∷ js) ≡ false) same h.3)))
        from,
    links (leaf_at k) js is sizes.3 distinct.1 other.1 (inr (k, sizes.0, refl, distinct.0, other.0)),
  )

  head : (i : ℕ) → i < 4 → (i ≡ 2 → ⊥) → word rewritten i ≡ word m i
  head i l n = unchanged i (off_low i fs (omega arith)) (λ e. ⊎_elim (λ z. n (e ∙ z)) (λ h. let a = h.3 in omega arith) place)

  tail_leads : Leads m (first_leaf post) post
  tail_leads =
      let rest = leads_rest m (link_at 2 pre) old post (leads_rest m 2 pre (old ++ post) opens.leads) in
      rw (leads_first m _ post rest) at rest

  pub pre_kept : KeptLeaves rewritten m pre
  pre_kept = kept_leaves pre pre_sized pre_apart

  pub post_kept : KeptLeaves rewritten m post
  post_kept = kept_leaves post post_sized post_apart

  pub fresh : Fresh o rewritten m post fs
  fresh = record { filled = all_filled; sizes = r.placed.filled; valid = r.valid; up = r.ascends; below = r.below }

  new_leads : Leads rewritten (word rewritten 2) js
  new_leads =
      let on = leads_filled rewritten post fs firsts all_filled (leads_same rewritten m (first_leaf post) post post_same tail_leads) in
      let before = links 2 pre refl pre_sized (distinct_split pre (old ++ post) opens.distinct).0 pre_apart (inl refl) in
      leads_relinked rewritten m 2 pre (old ++ post) (leaf_numbers fs ++ post) before opens.leads (rw link_new on)

  new_within : UpTo (word m 3) js
  new_within =
      let here = numbers_up_to (word m 3) fs r.placed.within in
      let after = up_to_right _ old post (up_to_right _ pre (old ++ post) opens.within) in
      up_to_from _ pre (leaf_numbers fs ++ post) (up_to_left _ pre (old ++ post) opens.within) (up_to_from _ (leaf_numbers fs) post here after)

  new_fine : AllFine o rewritten (lone js) None js
  new_fine =
      let (pre_fine, (x, post_fine)) = around o m pre old post r.gone opens.fine in
      let fine = all_fine o ordered rewritten m pre post fs r.placed.some pre_kept post_kept pre_fine x post_fine fresh r.above in
      all_fine_busy o rewritten false (lone js) None js (all_busy o rewritten None js fine) fine

  pub rewritten_opens : open_answer o rewritten ≡ Ok js
  rewritten_opens =
      let h = opens in
      let long = length_finished m (rewrite_lines pre fs post) in
      let leaves = head 3 (omega arith) (λ e. omega arith) in
      opens_to o rewritten js (record {
        long = rw long h.long;
        mark = head 0 (omega arith) (λ e. omega arith) ∙ h.mark;
        code = head 1 (omega arith) (λ e. omega arith) ∙ h.code;
        least = rw leaves h.least;
        most = rw leaves h.most;
        fits = rw (long, leaves) h.fits;
        some = some_replaced pre post fs r.placed.some;
        spare = rw leaves r.placed.spare;
        leads = new_leads;
        within = rw leaves new_within;
        distinct = distinct_replaced pre old post (leaf_numbers fs) h.distinct r.placed.distinct (free_apart (pre ++ (old ++ post)) fs r.placed.free);
        fine = new_fine;
      })

  pub rewritten_book : book o rewritten ≡ all_pairs o m pre ++ (contents fs ++ all_pairs o m post)
  rewritten_book =
      let a = all_pairs_kept o rewritten m pre pre_kept in
      let b = new_pairs o ordered rewritten m post fs fresh in
      let c = all_pairs_kept o rewritten m post post_kept in
      ap (all_pairs o rewritten) (linked_is o ordered rewritten js rewritten_opens)
      ∙ (all_pairs_append o rewritten pre (leaf_numbers fs ++ post) ∙ (ap (λ ps. all_pairs o rewritten pre ++ ps) (all_pairs_append o rewritten (leaf_numbers fs) post) ∙ rw (a, b, c)))

  pub guards : Guards (footprint m) (leaves_lines fs post) (link_commit pre fs post)
  guards =
      let is = linked_is o ordered m (pre ++ (old ++ post)) r.opens in
      record {
        spared = λ i t. leaves_lines_spare fs post i r.placed.filled (⊎_elim
            (λ low. let l = ltb-true i 4 low in off_low i fs (omega arith))
            (λ leaves. leaves_off m (pre ++ (old ++ post)) fs i all_sized firsts apart (rw is at leaves))
            (or_cases (ltb i 4) _ (told (footprint m i) t)));
        committed = holds _ (link_footprint m pre (old ++ post) is);
      }

  pub proper : Proper (length m) (rewrite_lines pre fs post)
  proper =
      let l = link_inside in
      proper_append (length m) (leaves_lines fs post) (single (link_commit pre fs post) ∷ []) (leaves_lines_proper (length m) fs post r.placed.filled inside) (omega arith)

  pub differs : New (link_commit pre fs post) m → ⊥
  differs e = link_differs m (word m (link_at 2 pre)) pre old post fs r.gone r.placed.some (leads_rest m 2 pre (old ++ post) opens.leads) r.placed.free e

pub replacements_hold : Replacements
replacements_hold o ordered m pre old post fs r = record {
  guards = guards o ordered m pre old post fs r;
  proper = proper o ordered m pre old post fs r;
  differs = differs o ordered m pre old post fs r;
  done = (rewritten_opens o ordered m pre old post fs r, rewritten_book o ordered m pre old post fs r);
}
