-- Stepping stones: what becomes of a writer where an input is answered. Assumes nothing: these are definitions.
use Rattle.std.specs.Prelude.{◌≡◌, List, Result, Ok, Err, ℕ, ◌≤◌, length}
use Rattle.refusals.specs.declared.Refusal.{Refusal}
use Rattle.refusals.specs.Refusal.{number_of}
use Rattle.text.specs.declared.Writer.{Writer}
use Rattle.text.specs.Text.{Puts}
use Rattle.report.specs.declared.Status.{Status}
use Rattle.report.specs.Report.{refused_text, refused_status, status_number, Prints}

-- what is printed with this status is written
pub record Written (f : List ℕ) (old : Writer) (s : ℕ) (new : Writer) : Type 0 where
  pub text : List ℕ
  pub prints : Prints f text s
  pub puts : Puts old text new
  pub fits : new.at ≤ length new.buf.now

-- that, or a refusal that is to be printed, with nothing written
abbrev pub Answers : List ℕ → Writer → Result Status Refusal → Writer → Type 0
Answers f old (Ok s) new = Written f old (status_number s) new
Answers f old (Err r) new = Prints f (refused_text (number_of r.reason) r.place) refused_status × (new ≡ old)
