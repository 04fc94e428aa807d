-- Where a key belongs in a sound tree.
use Rattle.std.proofs.Common.{◌≡◌, ℕ, List, [], ◌∷◌, ◌++◌, length, Ok, sym, refl, ap, ◌∙◌}
use Rattle.keys.specs.InWords.{WordKind, WordOrdered}
use Rattle.leaves.specs.Pairs.{lookup}
use Rattle.books.specs.Bounds.{Place, locate}
use Rattle.books.specs.Footprint.{book}
use Rattle.books.specs.Questions.{Belongs}
use Rattle.books.proofs.BoundLaws.{locates_hold}
use Rattle.books.proofs.QuestionLaws.{finds_hold}
use Rattle.plans.specs.Plan.{Tree, Site, site, site_at, pairs_of}
use Rattle.plans.specs.Laws.{Sound}

pub site_is : (pre : List ℕ) (k : ℕ) (post : List ℕ) → site_at (length pre) (pre ++ k ∷ post) ≡ record { before = pre; leaf = k; after = post }
site_is [] k post = refl
site_is (j ∷ pre) k post = ap (λ (s : Site). record { before = j ∷ s.before; leaf = s.leaf; after = s.after }) (site_is pre k post)

module _ (o : WordKind) (ordered : WordOrdered o) (m : List ℕ) (t : Tree) (w : ℕ × ℕ) (sound : Sound o m t) where
  abbrev pub place_of : Place o m t.leaves t.bounds w
  place_of = locates_hold o ordered m t.leaves t.bounds w sound.bounded

  pub site_place : site o t w ≡ record { before = place_of.pre; leaf = place_of.leaf; after = place_of.post }
  site_place =
      let p = place_of in
      ap (λ ks. site_at (locate o w t.bounds) ks) p.leaves ∙ (ap (λ i. site_at i (p.pre ++ p.leaf ∷ p.post)) (sym p.place) ∙ site_is p.pre p.leaf p.post)

  pub belongs_at : Belongs o m place_of.pre place_of.leaf place_of.post w
  belongs_at = let p = place_of in record { opens = sound.opens ∙ ap Ok p.leaves; above = p.above; below = p.below }

  -- The leaf of a key tells what the book tells of it.
  pub site_tells : lookup w (pairs_of o m (site o t w).leaf) ≡ lookup w (book o m)
  site_tells =
      let p = place_of in
      ap (λ (s : Site). lookup w (pairs_of o m s.leaf)) site_place ∙ sym (finds_hold o ordered m p.pre p.leaf p.post w belongs_at)
