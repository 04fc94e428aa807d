use Rattle.std.proofs.Common.{rules, ⊎_elim}
use Rattle.script.proofs.parse.line.Goals as goal

pub returns-in_ok-probing-in-steps-clause-deed : goal.returns-in_ok-probing-in-steps-clause-deed
returns-in_ok-probing-in-steps-clause-deed c names =
    ⊎_elim (λ put. absurd (search rules)) (⊎_elim (λ change. absurd (search rules)) (λ remove. absurd (search rules))) names

pub returns-in_ok-setting-in-margin-clause-deed : goal.returns-in_ok-setting-in-margin-clause-deed
returns-in_ok-setting-in-margin-clause-deed c names =
    ⊎_elim (λ put. absurd (search rules)) (⊎_elim (λ change. absurd (search rules)) (λ remove. absurd (search rules))) names

pub returns-in_ok-setting-in-margin-clause-question : goal.returns-in_ok-setting-in-margin-clause-question
returns-in_ok-setting-in-margin-clause-question c names =
    ⊎_elim (λ find. absurd (search rules)) (λ next. absurd (search rules)) names

pub returns-in_ok-call-in_default-clause-deed : goal.returns-in_ok-call-in_default-clause-deed
returns-in_ok-call-in_default-clause-deed c names =
    ⊎_elim (λ put. absurd (search rules)) (⊎_elim (λ change. absurd (search rules)) (λ remove. absurd (search rules))) names
