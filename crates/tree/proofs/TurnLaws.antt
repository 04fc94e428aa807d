-- A call of an open logbook: where its key belongs, and what its leaf holds.
use Rattle.std.proofs.Common.{◌≡◌, ℕ, true, List, get_or, Some, None, Ok, Err, Option, Result, sym, refl, ap, ◌∙◌, arith}
use Rattle.std.proofs.lemmas.Bool.{cond-true}
use Rattle.std.proofs.lemmas.Bool.Decides.{nat_tests}
use Rattle.fixed_vec.specs.declared.FixedVec.{FixedVec}
use Rattle.fixed_vec.specs.Items.{items}
use Rattle.refusal.specs.declared.Refusal.{Refusal}
use Rattle.keys.specs.InWords.{WordKind, WordOrdered}
use Rattle.memory.specs.Meaning.{Words}
use Rattle.leaves.specs.declared.leaf.Element.{Element}
use Rattle.leaves.specs.declared.leaf.Seen.{Seen}
use Rattle.leaves.specs.Asking.{count_answer, counted, elements_told, granted, seen}
use Rattle.leaves.specs.Layout.{Within, count_of, elements}
use Rattle.leaves.specs.Pairs.{latest, lookup}
use Rattle.leaves.proofs.ElementLaws.{lookup_pairs}
use Rattle.books.specs.Footprint.{book}
use Rattle.books.proofs.QuestionLaws.{finds_hold}
use Rattle.index.specs.declared.node.Entry.{Entry}
use Rattle.index.specs.declared.table.Index.{Index}
use Rattle.index.specs.declared.table.Place.{Place}
use Rattle.index.specs.Meaning.{grouped, listed}
use Rattle.index.specs.Nodes.{bounds, entry, numbers}
use Rattle.index.specs.Places.{position, within}
use Rattle.index.specs.Search.{concat}
use Rattle.plans.specs.declared.deed.Deed.{Deed}
use Rattle.plans.specs.Deeds.{key_of}
use Rattle.plans.specs.Plan.{Wish, pairs_of, carried, site, wish}
use Rattle.plans.specs.Told.{by_rule}
use Rattle.tree.specs.declared.logbook.place.Home.{Home}
use Rattle.tree.specs.declared.logbook.State.{State}
use Rattle.tree.specs.declared.logbook.State.TheVariants.{Blank, Open, Dark}
use Rattle.tree.specs.Halting.{halted}
use Rattle.tree.specs.Shape.{shape_of}
use Rattle.tree.specs.Sound.{Sound}
use Rattle.tree.specs.Telling.{indexed}
use Rattle.tree.specs.Turning.{Ending, Working, by_plan, call_ending, ending, number_for, tree_of}
use Rattle.tree.specs.Walk.{HomeIn, leaf_of, number_of}
use Rattle.tree.proofs.LocatedLaws.{Located, located_in, never_ok, number_at, search_is}

pub same_some : (a b : ℕ) → ◌≡◌ {A = Option ℕ} (Some a) (Some b) → a ≡ b
same_some a b e = cc

pub same_elements : (v : FixedVec Element 16) (es : List Element) → elements_told (Ok v) ≡ Ok es → items v ≡ es
same_elements v es e = cc

ok_same : (a b : Seen) → ◌≡◌ {A = Result Seen Refusal} (Ok a) (Ok b) → a ≡ b
ok_same a b e = cc

pub counted_within : (m : List ℕ) (k n : ℕ) → count_answer m k ≡ Ok n → Within m k
counted_within m k n e = (grind (arith, nat_tests), grind (arith, nat_tests), grind (arith, nat_tests))

pub leaf_there : (gs : List (List Entry)) (p : Place) → within gs p ≡ true → leaf_of gs (Some p) ≡ Some (get_or (concat gs) (position gs p) (entry 0 (0, 0))).to
leaf_there gs p t = ap number_of (cond-true (within gs p) (Some (get_or (concat gs) (position gs p) (entry 0 (0, 0)))) None t)

-- A call at work: its key's leaf, by its number.
module _ (o : WordKind) (ordered : WordOrdered o) (m : List ℕ) (x : Index) (w : ℕ × ℕ) (h : Home) (work : Working o m x w h) where
  pub number_is : position (grouped x) h.place ≡ number_for o x w
  number_is = work.home.0.1 work.fits.ascending ∙ search_is o w (bounds (listed x))

  entry_is : h.leaf ≡ (get_or (listed x) (position (grouped x) h.place) (entry 0 (0, 0))).to
  entry_is = same_some _ _ (work.home.1 ∙ leaf_there (grouped x) h.place work.home.0.0)

  pub leaf_is : h.leaf ≡ get_or (numbers (listed x)) (number_for o x w) 0
  leaf_is = entry_is ∙ (number_at (listed x) (position (grouped x) h.place) ∙ ap (λ n. get_or (numbers (listed x)) n 0) number_is)

  pub placed_here : Located o m (Open x) w h.leaf
  placed_here = located_in o ordered m (listed x) (Open x) w h.leaf work.fits (entry_is ∙ ap (λ n. (get_or (listed x) n (entry 0 (0, 0))).to) (work.home.0.1 work.fits.ascending))

  -- What is read of the leaf is what it counts, and what it says of the key is what the book says.
  pub elements_here : (r : Result (FixedVec Element 16) Refusal) → elements_told r ≡ counted m h.leaf (elements m h.leaf) → elements_told r ≡ Ok (elements m h.leaf (count_of m h.leaf))
  elements_here r e = e ∙ ap (λ n. granted n (elements m h.leaf)) placed_here.counted

  -- What is seen of the leaf.
  pub seen_here : (s : Seen) (v : ℕ × ℕ) → ◌≡◌ {A = Result Seen Refusal} (Ok s) (counted m h.leaf (seen m h.leaf v)) → s ≡ seen m h.leaf v (count_of m h.leaf)
  seen_here s v e = ok_same s _ (e ∙ ap (λ n. granted n (seen m h.leaf v)) placed_here.counted)

  pub seen_never : (e : Refusal) (v : ℕ × ℕ) → ◌≡◌ {A = Result Seen Refusal} (Err e) (counted m h.leaf (seen m h.leaf v)) → ◌≡◌ {A = Result Seen Refusal} (Ok (seen m h.leaf v (count_of m h.leaf))) (Err e)
  seen_never e v is = sym (is ∙ ap (λ n. granted n (seen m h.leaf v)) placed_here.counted)

  pub held_here : (es : List Element) → es ≡ elements m h.leaf (count_of m h.leaf) → latest w es ≡ lookup w (pairs_of o m h.leaf)
  held_here es e = ap (latest w) e ∙ lookup_pairs o ordered w m h.leaf (count_of m h.leaf)

  pub held_in_book : lookup w (pairs_of o m h.leaf) ≡ lookup w (book o m)
  held_in_book = let l = placed_here in sym (finds_hold o ordered m l.pre h.leaf l.post w l.belongs)

  -- The leaf is one of 1 to 64 within the memory.
  pub leaf_within : Within m h.leaf
  leaf_within = counted_within m h.leaf (count_of m h.leaf) placed_here.counted

-- What a call comes to, by what its leaf says of the key.
module _ (o : WordKind) (ordered : WordOrdered o) (m : Words) (x : Index) (taken : Option ℕ) (d : Deed) (h : Home) (work : Working o m.live x (key_of d) h) where
  pub called : (wished : Wish) → wished ≡ wish d (lookup (key_of d) (pairs_of o m.live h.leaf))
      → by_plan (number_for o x (key_of d)) m x taken (carried by_rule o m.live (tree_of x taken) (site o (tree_of x taken) (key_of d)) d wished) ≡ call_ending o m (Open x) taken d
  called wished e =
      let t = tree_of x taken in
      let s = site o t (key_of d) in
      ap (λ a. by_plan (number_for o x (key_of d)) m x taken (carried by_rule o m.live t s d a)) (e ∙ ap (λ k. wish d (lookup (key_of d) (pairs_of o m.live k))) (leaf_is o ordered m.live x (key_of d) h work))

-- A logbook where a key has a place is open, and a sound one can carry a call out.
pub at_work : (o : WordKind) (m : Words) (s : State) (taken : Option ℕ) (d : Deed) (h : Home) (P : Ending → State → Type 0)
    → HomeIn o s (key_of d) h → Sound o m.live s
    → ((x : Index) → s ≡ Open x → Working o m.live x (key_of d) h → P (call_ending o m (Open x) taken d) (Open x))
    → P (call_ending o m s taken d) s
at_work o m Blank taken d h P home sound go = absurd home
at_work o m (Open x) taken d h P home sound go = go x refl (record { fits = sound; home = home })
at_work o m Dark taken d h P home sound go = absurd home

-- A logbook that is not open refuses a call.
pub not_open : (o : WordKind) (m : Words) (s : State) (taken : Option ℕ) (d : Deed) (e : Refusal) → indexed s ≡ Err e → ending (Err (halted e 0)) m (shape_of s) taken ≡ call_ending o m s taken d
not_open o m Blank taken d e h = cc
not_open o m (Open x) taken d e h = never_ok e h
not_open o m Dark taken d e h = cc
