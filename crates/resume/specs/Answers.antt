-- The resume check's answers and their numbers. Assumes nothing.
use Rattle.leaves.specs.declared.refusals.Refusal.{Refusal}
use Rattle.std.specs.Prelude.{ℕ, cond, eqb, Err, Ok, Result}
use Rattle.leaves.specs.Numbers.{resumes}
use Rattle.leaves.specs.Refusals.{number, refusal}
use Rattle.resume.specs.declared.Verdict.{Verdict}
use Rattle.resume.specs.declared.Verdict.TheVariants.{Append, NoTag, Differ, NotPartial}

-- the answers by their numbers: "3 if the second status code isn't 206; else 1 if ..; else 2 if ..; else 0, append. These are answers, apart
-- from the table." A number that is none of these four is the table's
abbrev pub answer : ℕ → Result Verdict Refusal
answer n = cond (eqb n 0) (Ok Append) (cond (eqb n 1) (Ok NoTag) (cond (eqb n 2) (Ok Differ) (cond (eqb n 3) (Ok NotPartial) (Err (refusal n)))))

abbrev pub told : Result Verdict Refusal → ℕ
told (Ok Append) = resumes 0
told (Ok NoTag) = resumes 1
told (Ok Differ) = resumes 2
told (Ok NotPartial) = resumes 3
told (Err e) = number e
