-- A line is read by the name that it begins with, and one with a word speaks.
use Rattle.std.proofs.Common.{◌<◌, [], ◌∷◌, length, refl, inl, inr, arith}
use Rattle.std.specs.Prelude.{Some, IsOk, Result}
use Rattle.script.specs.Asking.{ReadsLine, Speaks}
use Rattle.script.specs.Forms.{Words, AnyForm, NamesCall, NamesCut, NamesDeed, NamesMemory, NamesProbing, NamesQuestion, NamesSetting, ReadsCall, ReadsCut, ReadsDeed, ReadsMemory, ReadsProbing, ReadsQuestion, ReadsSetting}
use Rattle.script.specs.declared.line.Line.{Line}
use Rattle.script.specs.declared.line.Line.TheVariants.{Memory, Setting, Probing, Call}
use Rattle.script.specs.declared.wrong.Wrong.{Wrong}

-- Where each name is read by its forms, so is every line: a form has its name.
pub read_line : (ws : Words) (r : Result Line Wrong) →
    (NamesMemory ws → ReadsMemory ws r Memory) → (NamesSetting ws → ReadsSetting ws r Setting) → (NamesProbing ws → ReadsProbing ws r Probing) →
    (NamesDeed ws → ReadsDeed ws r Call) → (NamesQuestion ws → ReadsQuestion ws r Call) → (NamesCall ws → ReadsCall ws r Call) →
    (NamesCut ws → ReadsCut ws r) → (IsOk r → AnyForm ws) → ReadsLine ws r
read_line ws r memory setting probing deed question call cut others = record {
  memory = record {
    through = λ f. (memory f.0.1).through f;
    buffered = λ f. (memory f.0.1).buffered f;
  };
  setting = record {
    margin = λ f. (setting (inl f.1)).margin f;
    rotation = λ f. (setting (inr (inl f.1))).rotation f;
    stamp = λ f. (setting (inr (inr (inl f.0.1)))).stamp f;
    port = λ f. (setting (inr (inr (inl f.0.1)))).port f;
    make = λ f. (setting (inr (inr (inr f.1)))).make f;
  };
  probing = record {
    steps = λ f. (probing (inl f.1)).steps f;
    poke = λ f. (probing (inr (inl f.1))).poke f;
    dump = λ f. (probing (inr (inr f.1))).dump f;
  };
  deed = record {
    put-stamp = λ f. (deed (inl f.1)).put-stamp f;
    put-port = λ f. (deed (inl f.1)).put-port f;
    change-stamp = λ f. (deed (inr (inl f.1))).change-stamp f;
    change-port = λ f. (deed (inr (inl f.1))).change-port f;
    remove-stamp = λ f. (deed (inr (inr f.1))).remove-stamp f;
    remove-port = λ f. (deed (inr (inr f.1))).remove-port f;
  };
  question = record {
    find-stamp = λ f. (question (inl f.1)).find-stamp f;
    find-port = λ f. (question (inl f.1)).find-port f;
    next-stamp = λ f. (question (inr f.1)).next-stamp f;
    next-port = λ f. (question (inr f.1)).next-port f;
  };
  call = record {
    format = λ f. (call (inl f.1)).format f;
    opens = λ f. (call (inr (inl f.1))).opens f;
    pairs = λ f. (call (inr (inr (inl f.1)))).pairs f;
    node = λ f. (call (inr (inr (inr (inl f.1))))).node f;
    state = λ f. (call (inr (inr (inr (inr f.1))))).state f;
  };
  cut = record {
    firm = λ f. (cut f.0.1).firm f;
    live = λ f. (cut f.0.1).live f;
    mix = λ f. (cut f.1).mix f;
  };
  others = others;
}

pub spoken : (ws : Words) (line : Result Line Wrong) → 0 < length ws → ReadsLine ws line → Speaks ws (Some line)
spoken [] line some reads = absurd (omega (arith, some))
spoken (w ∷ ws) line some reads = (line, refl, reads)
