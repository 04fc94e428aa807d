-- What a cut leaves of line writes on a settled memory.
use Rattle.std.proofs.Common.{◌≡◌, ℕ, zero, suc, ◌+◌, ◌<◌, ◌≤◌, Bool, true, false, cond, T, ◌⊎◌, List, [], ◌∷◌, length, get_or, take, set, sym, refl, ap, ◌∙◌, subst, inl, inr, ⊎_elim, arith, length-append, take_all, get_or-set_other, get_or-set_same, take_at, ext_get_or}
use lib.Seq.{take-append-le}
use Rattle.std.proofs.lemmas.Bool.{cases_lt, cases_eq}
use Rattle.memory.specs.Meaning.{Words, Power, endless, left, Settled, picked}
use Rattle.writes.specs.Writes.{Store, Run, LineWrite, perform, cost, applied, finished, Lined, Proper, Spares, single}
use Rattle.writes.specs.Laws.{Enough, Below, Cut, Alike, Whole, Short, PowerAlone, BrokenOff, change, New, Atomic, Commit, Kept, Observed}
use Rattle.writes.proofs.Mixes.{same_cond, picked_one, get_or_picked, length_picked, mix_of, mix_each, length_mix, applied_spared, line_spared, some_stores, length_applied}
use Rattle.writes.proofs.Runs as runs
use Rattle.writes.proofs.Runs.{Make, made, mem, Stop}

settled_is : (m : Words) (p : Power) → Settled m → m.power ≡ p → mem m.live m.live (made m) p ≡ m
settled_is m p s e = ap (λ (b : List ℕ). mem m.live b (made m) p) s ∙ ap (λ (q : Power). mem m.live m.firm (made m) q) (sym e)

pub whole_holds : Whole
unfolding perform
whole_holds m ws s h n =
    ap (λ (x : Words). perform x ws) (sym (settled_is m m.power s refl)) ∙ runs.whole (length m.live) ws m.live (made m) m.power refl h n

pub length_finished : (w : List ℕ) (ws : List LineWrite) → length (finished w ws) ≡ length w
length_finished w [] = refl
length_finished w (l ∷ ws) = length_finished (applied w l.stores) ws ∙ length_applied w l.stores

-- A mix of the live and firm words inside a line write.
inside : (size l : ℕ) (ss : List Store) (n : ℕ) (b : List ℕ) (t : Bool) (f : ℕ → Bool) → Lined size l ss → (i : ℕ)
    → (get_or (picked f (applied b (take n ss)) (cond t (applied b (take n ss)) b)) i 0 ≡ get_or b i 0)
    ⊎ (get_or (picked f (applied b (take n ss)) (cond t (applied b (take n ss)) b)) i 0 ≡ get_or (applied b ss) i 0)
inside size l ss n b true f h i = rw picked_one (some_stores size l ss n b h i)
inside size l ss n b false f h i =
    rw (get_or_picked f (applied b (take n ss)) b (length_applied b (take n ss)) i) (at (f i))
  where
    at : (c : Bool) → (cond c (get_or (applied b (take n ss)) i 0) (get_or b i 0) ≡ get_or b i 0) ⊎ (cond c (get_or (applied b (take n ss)) i 0) (get_or b i 0) ≡ get_or (applied b ss) i 0)
    at true = some_stores size l ss n b h i
    at false = inl refl

inside_length : (ss : List Store) (b : List ℕ) (t : Bool) (f : ℕ → Bool) → length (picked f (applied b ss) (cond t (applied b ss) b)) ≡ length b
inside_length ss b true f = length_picked f (applied b ss) (applied b ss) ∙ length_applied b ss
inside_length ss b false f = length_picked f (applied b ss) b ∙ length_applied b ss

stop_words : (w : List ℕ) (t : Make) (ws : List LineWrite) (n : ℕ) (s : Stop (length w) w t ws n) (words : List ℕ) (c : Cut (perform (mem w w t (left n)) ws).after words)
    → words ≡ picked c.0 (applied (finished w (take s.whole ws)) (take s.made s.part.stores))
    (cond t.through (applied (finished w (take s.whole ws)) (take s.made s.part.stores)) (finished w (take s.whole ws)))
unfolding perform
stop_words w t ws n s words c = c.1 ∙ ap (λ (r : Run). picked c.0 r.after.live r.after.firm) s.is

stop_each : (w : List ℕ) (t : Make) (ws : List LineWrite) (n : ℕ) (s : Stop (length w) w t ws n) (words : List ℕ) → Cut (perform (mem w w t (left n)) ws).after words → (i : ℕ)
    → (get_or words i 0 ≡ get_or (finished w (take s.whole ws)) i 0) ⊎ (get_or words i 0 ≡ get_or (applied (finished w (take s.whole ws)) s.part.stores) i 0)
stop_each w t ws n s words c i =
    rw (stop_words w t ws n s words c) (inside (length w) s.part.line s.part.stores s.made (finished w (take s.whole ws)) t.through c.0 s.lined i)

stop_broken : (w : List ℕ) (t : Make) (ws : List LineWrite) (n : ℕ) → Stop (length w) w t ws n → BrokenOff (mem w w t (left n)) ws n
unfolding perform
stop_broken w t ws n s =
    let b = finished w (take s.whole ws) in
    let few = take s.made s.part.stores in
    let now-is = stop_words w t ws n s in
    let each = stop_each w t ws n s in
    record {
      ended = ap (λ (r : Run). r.ended) s.is;
      steps = ap (λ (r : Run). r.steps) s.is;
      power = ap (λ (r : Run). r.after.power) s.is;
      whole = s.whole;
      within = s.within;
      not_before = omega (arith, s.count);
      not_after = omega (arith, s.count, s.after_cost, s.few);
      torn = λ words c. rw s.after_words (_, mix_of (applied b s.part.stores) b words (length_applied b s.part.stores) (ap length (now-is words c) ∙ inside_length few b t.through c.0) (each words c));
      line = s.part.line;
      elsewhere = λ words c i n. ⊎_elim (λ e. e) (λ e. e ∙ applied_spared b s.part.stores i (line_spared (length w) s.part.line s.part.stores i s.lined n)) (each words c i);
    }

pub short_holds : Short
short_holds m ws n s h p c =
    subst (λ (x : Words). BrokenOff x ws n) (settled_is m (left n) s p) (stop_broken m.live (made m) ws n (runs.short (length m.live) ws m.live (made m) n refl h c))

spares_take : (k i : ℕ) (ws : List LineWrite) → Spares i ws → Spares i (take k ws)
spares_take zero i ws h = tt
spares_take (suc k) i [] h = tt
spares_take (suc k) i (l ∷ ws) h = (h.0, spares_take k i ws h.1)

pub finished_spares : (w : List ℕ) (ws : List LineWrite) (i : ℕ) → Spares i ws → get_or (finished w ws) i 0 ≡ get_or w i 0
finished_spares w [] i h = refl
finished_spares w (l ∷ ws) i h = finished_spares (applied w l.stores) ws i h.1 ∙ applied_spared w l.stores i h.0

pub finished_last : (w : List ℕ) (ws : List LineWrite) (c : Store) → finished w (change ws c) ≡ set (finished w ws) c.at c.word
finished_last w [] c = refl
finished_last w (l ∷ ws) c = finished_last (applied w l.stores) ws c

cost_last : (ws : List LineWrite) (c : Store) → cost (change ws c) ≡ cost ws + 2
cost_last [] c = refl
cost_last (l ∷ ws) c = omega (arith, cost_last ws c)

proper_last : (size : ℕ) (ws : List LineWrite) (c : Store) → Proper size (change ws c) → c.at < size
proper_last size [] c h = h.1.0
proper_last size (l ∷ ws) c h = proper_last size ws c h.2

enough_or : (p : Power) (k : ℕ) → Enough p k ⊎ ((n : ℕ) × (p ≡ left n) × (n < k))
enough_or endless k = inl tt
enough_or (left n) k = ⊎_elim (λ short. inr (n, refl, short)) inl (cases_lt n k)

pub power_alone_holds : PowerAlone
power_alone_holds m ws s h =
    ⊎_elim
    (λ enough. inl (ap (λ (r : Run). r.ended) (whole_holds m ws s h enough)))
    (λ few. inr (short_holds m ws few.0 s h few.1 few.2).ended)
    (enough_or m.power (cost ws))

-- The words stand as after so many of the line writes, or one more.
abbrev Torn : List ℕ → List LineWrite → List ℕ → Type 0
Torn w ws words = (k : ℕ) × (k < length ws) × (length words ≡ length w)
    × ((i : ℕ) → (get_or words i 0 ≡ get_or (finished w (take k ws)) i 0) ⊎ (get_or words i 0 ≡ get_or (finished w (take (suc k) ws)) i 0))

-- All is done, or torn.
left_by : (m : Words) (ws : List LineWrite) → Settled m → Proper (length m.live) ws
    → (words : List ℕ) → Cut (perform m ws).after words → (words ≡ finished m.live ws) ⊎ Torn m.live ws words
left_by m ws s h words c =
    ⊎_elim
    (λ enough. inl (c.1 ∙ (ap (λ (r : Run). picked c.0 r.after.live r.after.firm) (whole_holds m ws s h enough) ∙ picked_one c.0 (finished m.live ws))))
    (λ few.
    let b = short_holds m ws few.0 s h few.1 few.2 in
    let mix = b.torn words c in
    let new = finished m.live (take (suc b.whole) ws) in
    let old = finished m.live (take b.whole ws) in
    let same : length new ≡ length old = length_finished m.live (take (suc b.whole) ws) ∙ sym (length_finished m.live (take b.whole ws)) in
    inr (b.whole, b.within, length_mix new old words mix ∙ length_finished m.live (take (suc b.whole) ws), mix_each new old words same mix))
    (enough_or m.power (cost ws))

-- The state after all but the last, torn by the last alone.
module _ (w : List ℕ) (before : List LineWrite) (c : Store) (F : ℕ → Bool)
    (in_size : c.at < length w) (kept : (i : ℕ) → T (F i) → Spares i before) (in-F : T (F c.at))
    (differs : New c w → ⊥) (words : List ℕ) where
  abbrev Decided : Type 0
  Decided = ((New c words → ⊥) → Alike F words w) × (New c words → words ≡ finished w (change before c))

  decided_done : words ≡ finished w (change before c) → Decided
  decided_done e =
      let b = finished w before in
      let new : New c words = ap (λ (x : List ℕ). get_or x c.at 0) (e ∙ finished_last w before c) ∙ get_or-set_same b c.at c.word 0 (rw (length_finished w before) in_size) in
      (λ n. absurd (n new), λ _. e)

  old : (i : ℕ) → T (F i) → (k : ℕ) → get_or (finished w (take k before)) i 0 ≡ get_or w i 0
  old i f k = finished_spares w (take k before) i (spares_take k i before (kept i f))

  decided_early : (t : Torn w (change before c) words) → t.0 < length before → Decided
  decided_early t few =
      let front : (k : ℕ) → k ≤ length before → take k (change before c) ≡ take k before = λ k h. take-append-le k before (single c ∷ []) h in
      let same : (i : ℕ) → T (F i) → get_or words i 0 ≡ get_or w i 0 = λ i f.
      ⊎_elim
      (λ e. e ∙ rw (front t.0 (omega arith)) (old i f t.0))
      (λ e. e ∙ rw (front (suc t.0) (omega arith)) (old i f (suc t.0)))
      (t.3 i) in
      (λ _. (t.2, same), λ new. absurd (differs (sym (same c.at in-F) ∙ new)))

  decided_last : (t : Torn w (change before c) words) → length before ≤ t.0 → Decided
  decided_last t all =
      let b = finished w before in
      let ws = change before c in
      let long : length ws ≡ length before + 1 = length-append before (single c ∷ []) in
      let here : take t.0 ws ≡ before = take_at before (single c ∷ []) t.0 (omega (arith, t.1)) in
      let there : take (suc t.0) ws ≡ ws = take_all (suc t.0) ws (omega arith) in
      let new_is : get_or (finished w ws) c.at 0 ≡ c.word =
      rw (finished_last w before c) (get_or-set_same b c.at c.word 0 (rw (length_finished w before) in_size)) in
      let other : (i : ℕ) → (i ≡ c.at → ⊥) → get_or (finished w ws) i 0 ≡ get_or b i 0 =
      λ i n. rw (finished_last w before c) (get_or-set_other b c.at i c.word 0 n) in
      let each : (i : ℕ) → (get_or words i 0 ≡ get_or b i 0) ⊎ (get_or words i 0 ≡ get_or (finished w ws) i 0) =
      λ i. simp (here, there) at (t.3 i) in
      let as_before : (i : ℕ) → T (F i) → get_or b i 0 ≡ get_or w i 0 = λ i f. finished_spares w before i (kept i f) in (
        λ n. (
          t.2,
          λ i f. ⊎_elim
              (λ e. e ∙ as_before i f)
              (λ e. ⊎_elim (λ same. absurd (n ((rw same at e) ∙ new_is))) (λ apart. e ∙ (other i apart ∙ as_before i f)) (cases_eq i c.at))
              (each i),
        ),
        λ new. ext_get_or 0 words (finished w ws) (t.2 ∙ sym (length_finished w ws)) (λ i _. ⊎_elim
            (λ e. ⊎_elim (λ same. rw same (new ∙ sym new_is)) (λ apart. e ∙ sym (other i apart)) (cases_eq i c.at))
            (λ e. e)
            (each i)),
      )

pub commit_holds : Commit
commit_holds m before c F r g words cut =
    let size = proper_last (length m.live) before c r.proper in
    ⊎_elim (decided_done m.live before c F size g.spared g.committed r.old words)
    (λ t. ⊎_elim
    (decided_early m.live before c F size g.spared g.committed r.old words t)
    (decided_last m.live before c F size g.spared g.committed r.old words t)
    (cases_lt t.0 (length before)))
    (left_by m (change before c) r.settled r.proper words cut)

pub atomic_after : (m after : Words) (before : List LineWrite) (commit : Store) → after ≡ (perform m (change before commit)).after → Atomic m after before commit
atomic_after m after before c e = subst (λ (x : Words). Atomic m x before c) (sym e) (commit_holds m before c)

-- With one step less than the commit's store wants, its word is old.
unreached : (w : List ℕ) (t : Make) (before : List LineWrite) (c : Store) (n : ℕ) → Stop (length w) w t (change before c) n
    → n ≤ cost before → Spares c.at before → (words : List ℕ) → Cut (perform (mem w w t (left n)) (change before c)).after words
    → get_or words c.at 0 ≡ get_or w c.at 0
unreached w t before c n s few spares words cut = ⊎_elim early last (cases_lt s.whole (length before))
  where
    front : (k : ℕ) → k ≤ length before → get_or (finished w (take k (change before c))) c.at 0 ≡ get_or w c.at 0
    front k h = rw (take-append-le k before (single c ∷ []) h) (finished_spares w (take k before) c.at (spares_take k c.at before spares))

    early : s.whole < length before → get_or words c.at 0 ≡ get_or w c.at 0
    early few =
        ⊎_elim
        (λ e. e ∙ front s.whole (omega arith))
        (λ e. e ∙ (ap (λ (x : List ℕ). get_or x c.at 0) (sym s.after_words) ∙ front (suc s.whole) few))
        (stop_each w t (change before c) n s words cut c.at)

    last : length before ≤ s.whole → get_or words c.at 0 ≡ get_or w c.at 0
    last all =
        let long : length (change before c) ≡ length before + 1 = length-append before (single c ∷ []) in
        let here : take s.whole (change before c) ≡ before = take_at before (single c ∷ []) s.whole (omega (arith, s.within)) in
        let none : s.made ≡ 0 = omega (arith, ap cost here, s.count) in
        let is = simp (here, none) at (stop_words w t (change before c) n s words cut) in
        let one = ap (picked cut.0 (finished w before)) (same_cond t.through (finished w before)) ∙ picked_one cut.0 (finished w before) in
        ap (λ (x : List ℕ). get_or x c.at 0) (is ∙ one) ∙ finished_spares w before c.at spares

below_left : (p q : Power) (x : ℕ) → q ≡ left x → Below p q → (a : ℕ) × (p ≡ left a) × (a < x)
below_left endless q x e h = absurd h
below_left (left a) endless x e h = let z : ◌≡◌ {A = ℕ} 0 1 = cc in absurd (omega arith)
below_left (left a) (left b) x e h = let z : b ≡ x = cc in (a, refl, omega arith)

pub kept_holds : Kept
kept_holds m n before c ready spares r same below words cut new =
    let s = ready.settled in
    let h = ready.proper in
    let differs = ready.old in
    let ws = change before c in
    ⊎_elim
    (λ enough. ap (λ (x : Run). x.ended) (whole_holds n ws r (rw (← same) h) enough))
    (λ few.
    let p = below_left m.power n.power few.0 few.1 below in
    let less : p.0 ≤ cost before = omega (arith, cost_last before c, few.2, p.2) in
    let stop = runs.short (length m.live) ws m.live (made m) p.0 refl h (omega (arith, cost_last before c)) in
    let cut' = subst (λ (x : Words). Cut (perform x ws).after words) (sym (settled_is m (left p.0) s p.1)) cut in
    absurd (differs (sym (unreached m.live (made m) before c p.0 stop less spares words cut') ∙ new)))
    (enough_or n.power (cost ws))

pub observed_holds : (X : Type 0) → Observed X
observed_holds X observe m before c F r g only words cut =
    let d = commit_holds m before c F r g words cut in
    (λ n. only words (d.0 n), λ new. ap observe (d.1 new))
