use Rattle.std.proofs.Common.{◌≡◌, ◌∙◌, refl, sym, subst}
use Rattle.keys.specs.InWords.{in_words}
use Rattle.keys.proofs.WordLaws.{in_words_ordered}
use Rattle.leaves.specs.Opening.{leaves_of}
use Rattle.memory.specs.Meaning.{Words}
use Rattle.tree.specs.Shape.{built_shape, shape_of, tops}
use Rattle.tree.specs.Sound.{Sound}
use Rattle.tree.proofs.OpenLaws.{told_open, shaped_open, sound_open}
use Rattle.tree.proofs.logbook.Logbook.open.Goals as goal

pub returns-in-Ok : goal.returns-in-Ok
returns-in-Ok g c =
    let book = c.args.self.now in
    let o = in_words g.K.Key.kind in
    let laws = in_words_ordered g.K.Key.kind g.met.K.Key.ordered g.met.K.Key.formed in
    let m = (g.M.Memory.meaning book.memory).live in
    let found = c.in-Ok.ensures in
    let ks = leaves_of c.in-Ok.chain in
    let bs = tops o m ks in
    let same = c.opened-self.ensures.same ∙ found.same in
    let r = c.opened-self.result in
    let shape = subst (λ (w : Words). shape_of r ≡ built_shape ks (tops o w.live ks)) found.same (rw c.as_slice.ensures.value at c.opened-self.ensures.shape) in
    record {
      same = same;
      answer = told_open o laws m ks bs found.value refl book.state c.in_default.not-Dark;
      state = shaped_open o laws m ks bs found.value refl book.state r c.in_default.not-Dark shape;
      taken = refl;
      sound = subst (λ (w : Words). Sound o w.live r) (sym same) (sound_open o laws m ks bs found.value refl r shape);
    }
