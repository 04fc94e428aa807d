use Rattle.image.proofs.Images.{length_image, one_image, read_back, written_back}
use Rattle.image.proofs.image_stands.Goals as goal

pub returns : goal.returns
returns c = record { long = rw c.octets_per_word.ensures length_image; read_back = read_back; written_back = written_back; one_image = one_image }
