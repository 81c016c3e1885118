-- The numbers of the exports: document 01's number and values for each answer, as C reads them. Assumes nothing: these are definitions.
use Rattle.std.specs.Prelude.{◌≡◌, List, Option, Some, None, Result, Ok, Err, ℕ, ◌*◌, ◌-◌, length}
use Rattle.refusals.specs.declared.Refusal.{Refusal}
use Rattle.refusals.specs.Refusal.{number_of}
use Rattle.loads.specs.Edits.{Edit}
use Rattle.jobfile.specs.declared.file.Sizes.{Sizes}
use Rattle.jobfile.specs.Rows.{trailer_size, connection_size}
use Rattle.jobfile.specs.Reads.{Reads, Stand}
use Rattle.panel.specs.Does.{Does, Makes, Signs}
use Rattle.route.specs.declared.Verdict.{Verdict}
use Rattle.route.specs.declared.Verdict.TheVariants as verdict
use Rattle.route.specs.Routes.{Routes}
use Rattle.judge.specs.Judges.{Judges}
use Rattle.rows.specs.Lines.{Lines}
use Rattle.lines.specs.Writes.{WritesLine}
use Rattle.part.specs.P1.{p1}
use Rattle.part.specs.Writes.{Writes}
use Rattle.reply.specs.declared.Answer.{Answer as ReplyAnswer}
use Rattle.reply.specs.declared.Answer.TheVariants as reply
use Rattle.reply.specs.Replies.{Replies}
use Rattle.jobfile.specs.declared.Connection.{Connection as Record}
use Rattle.editor.specs.Edits.{Edits}
use Rattle.editor.specs.Panels.{RoutesPanel}
use Rattle.silienvo.specs.declared.SilienvoAnswer.{SilienvoAnswer}
use Rattle.silienvo.specs.declared.SilienvoJob.{SilienvoJob}

-- a refusal; another kind of answer, with its value
abbrev pub refusal : ℕ → ℕ → SilienvoAnswer
refusal num place = record { kind = 0; number = num; value = place }

abbrev pub given : ℕ → ℕ → SilienvoAnswer
given kind value = record { kind = kind; number = 0; value = value }

-- a refusal as numbers, and another answer as it is told
abbrev pub answer_given : {A : Type 0} → (A → SilienvoAnswer) → Result A Refusal → SilienvoAnswer
answer_given told (Ok x) = told x
answer_given told (Err r) = refusal (number_of r.reason) r.place

-- the reader's answers, for a file of n bytes: the connections are the 3 × M bytes before the trailer
abbrev pub job_given : ℕ → Result Sizes Refusal → SilienvoJob
job_given n (Ok s) = record { kind = 1; number = 0; place = 0; columns = s.columns; tracks = s.tracks; connections = s.connections; limit = s.limit; start = n - trailer_size - connection_size * s.connections; length = connection_size * s.connections }
job_given n (Err r) = record { kind = 0; number = number_of r.reason; place = r.place; columns = 0; tracks = 0; connections = 0; limit = 0; start = 0; length = 0 }

-- the judge's and a panel's: 1 Legal, 1 done
abbrev pub done_given : Unit {0} → SilienvoAnswer
done_given x = given 1 0

-- those of all that write, the lines of a routing, a line, P1's file: 1 with the length
abbrev pub length_given : ℕ → SilienvoAnswer
length_given n = given 1 n

-- the router's: 1 Routed, 2 Unroutable, 3 Undecided, with the reported trials
abbrev pub verdict_given : Verdict → SilienvoAnswer
verdict_given (verdict.Routed n) = given 1 n
verdict_given (verdict.Unroutable n) = given 2 n
verdict_given (verdict.Undecided n) = given 3 n

-- the reply reader's: 1 Accepted, 2 Claimed, 3 Unknown
abbrev pub reply_given : ReplyAnswer → SilienvoAnswer
reply_given reply.Accepted = given 1 0
reply_given reply.Claimed = given 2 0
reply_given reply.Unknown = given 3 0

-- a panel's colour: 1 green, 2 red with the column
abbrev pub sign_given : Option ℕ → SilienvoAnswer
sign_given None = given 1 0
sign_given (Some x) = given 2 x

-- each export says what the function that it wraps says; and of a job its start and length tell where its connections stand
pub record ReadSays (f : List ℕ) (r : SilienvoJob) : Type 0 where
  pub answer : Result Sizes Refusal
  pub says : Reads f answer
  pub is : r ≡ job_given (length f) answer
  pub stand : r.kind ≡ 1 → Stand f r.start r.length

pub record RouteSays (f : List ℕ) (b : ℕ) (l : List ℕ) (r : SilienvoAnswer) (l' : List ℕ) : Type 0 where
  pub answer : Result Verdict Refusal
  pub says : Routes f b l answer l'
  pub is : r ≡ answer_given verdict_given answer

pub record JudgeSays (f q : List ℕ) (r : SilienvoAnswer) : Type 0 where
  pub answer : Result (Unit {0}) Refusal
  pub says : Judges f q answer
  pub is : r ≡ answer_given done_given answer

pub record RowsSays (f q old : List ℕ) (r : SilienvoAnswer) (new : List ℕ) : Type 0 where
  pub answer : Result ℕ Refusal
  pub says : Lines f q old answer new
  pub is : r ≡ answer_given length_given answer

pub record LineSays (f : List ℕ) (n : ℕ) (old : List ℕ) (r : SilienvoAnswer) (new : List ℕ) : Type 0 where
  pub answer : Result ℕ Refusal
  pub says : WritesLine f n old answer new
  pub is : r ≡ answer_given length_given answer

pub record ReplySays (f t l : List ℕ) (r : SilienvoAnswer) (l' : List ℕ) : Type 0 where
  pub answer : Result ReplyAnswer Refusal
  pub says : Replies f t l answer l'
  pub is : r ≡ answer_given reply_given answer

pub record PartSays (bytes : List ℕ) (k : ℕ) (old : List ℕ) (r : SilienvoAnswer) (new : List ℕ) : Type 0 where
  pub answer : Result ℕ Refusal
  pub says : Writes p1 bytes k old answer new
  pub is : r ≡ answer_given length_given answer

pub record EditSays (cs : List Record) (k b : ℕ) (old : List ℕ) (r : SilienvoAnswer) (new : List ℕ) : Type 0 where
  pub answer : Result Verdict Refusal
  pub says : Edits cs k b old answer new
  pub is : r ≡ answer_given verdict_given answer

pub record MakeSays (n t : ℕ) (s : List ℕ) (r : SilienvoAnswer) (s' : List ℕ) : Type 0 where
  pub answer : Result (Unit {0}) Refusal
  pub says : Makes n t s answer s'
  pub is : r ≡ answer_given done_given answer

pub record DoesSays (s : List ℕ) (e : Edit) (r : SilienvoAnswer) (s' : List ℕ) : Type 0 where
  pub answer : Result (Unit {0}) Refusal
  pub says : Does s e answer s'
  pub is : r ≡ answer_given done_given answer

pub record RedSays (s : List ℕ) (r : SilienvoAnswer) : Type 0 where
  pub answer : Option ℕ
  pub says : Signs s answer
  pub is : r ≡ sign_given answer

pub record PanelRouteSays (s : List ℕ) (k b : ℕ) (old : List ℕ) (r : SilienvoAnswer) (new : List ℕ) : Type 0 where
  pub answer : Result Verdict Refusal
  pub says : RoutesPanel s k b old answer new
  pub is : r ≡ answer_given verdict_given answer
