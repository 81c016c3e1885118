-- Document 01, "Numbers to hold against it": the twelve, in its order; and the numbers that document 02 names. Assumes nothing: these are definitions.
use Rattle.std.specs.Prelude.{◌≡◌, List, [], ◌∷◌, ℕ, ◌+◌, ◌<◌, length, get_or}
use Rattle.channel.specs.Channel.{Job, occupied_by, M}
use Rattle.channel.specs.Routing.{Routing, Routable, FirstRouting}
use Rattle.channel.specs.Verdict.{Need}
use Rattle.channel.specs.Worked.{track1, track2, connection, job_a, job_b_marked, job_b, job_one}
use Rattle.clauses.specs.Clauses.{clause_count}
use Rattle.lines.specs.Lined.{line_text}

-- a first routing and a need; no routing and a need
pub record RoutesFirst (j : Job) (q : List ℕ) (n : ℕ) : Type 0 where
  pub routing : FirstRouting j q
  pub need : Need j n

pub record RoutesNone (j : Job) (n : ℕ) : Type 0 where
  pub none : Routable j → ⊥
  pub need : Need j n

-- the lines of a job, 0 to C, are these
pub record LinesAre (j : Job) (ls : List (List ℕ)) : Type 0 where
  pub counted : length ls ≡ clause_count j + 1
  pub each : (n : ℕ) → n < length ls → line_text j n ≡ get_or ls n []

-- `p cnf 1 1` and `-1 0`, each with its LF
abbrev pub line1 : List ℕ
line1 = 112 ∷ 32 ∷ 99 ∷ 110 ∷ 102 ∷ 32 ∷ 49 ∷ 32 ∷ 49 ∷ 10 ∷ []

abbrev pub line2 : List ℕ
line2 = 45 ∷ 49 ∷ 32 ∷ 48 ∷ 10 ∷ []

pub record Twelve : Type 0 where
  -- 3–4 on track 1 occupies segments 1, 2
  pub n1 : occupied_by track1 (connection 3 4 0) ≡ 1 ∷ 2 ∷ []
  -- 3–3 on track 1 occupies segment 1
  pub n2 : occupied_by track1 (connection 3 3 0) ≡ 1 ∷ []
  -- 4–6 on track 1 occupies segment 2
  pub n3 : occupied_by track1 (connection 4 6 0) ≡ 2 ∷ []
  -- 2–3 on track 2 occupies 1, 2
  pub n4 : occupied_by track2 (connection 2 3 0) ≡ 1 ∷ 2 ∷ []
  -- job A: first routing 1 2 1, need 4
  pub n5 : RoutesFirst (job_a 0) (1 ∷ 2 ∷ 1 ∷ []) 4
  -- 2 1 2 is legal for A
  pub n6 : Routing (job_a 0) (2 ∷ 1 ∷ 2 ∷ [])
  -- 1 1 1 is not
  pub n7 : Routing (job_a 0) (1 ∷ 1 ∷ 1 ∷ []) → ⊥
  -- job B: no routing, need 10
  pub n8 : RoutesNone (job_b 2) 10
  -- B with K = 1: none, need 6
  pub n9 : RoutesNone (job_b 1) 6
  -- M = 0: the empty routing, need 0
  pub n10 : (j : Job) → M j ≡ 0 → RoutesFirst j [] 0
  -- A with connection 2 critical: none, need 6
  pub n11 : RoutesNone (job_a 1) 6
  -- T = 1, N = 6, one segment, K = 1, connection 1–6: routing 1, need 1, lines `p cnf 1 1`, `-1 0`
  pub n12 : RoutesFirst job_one (1 ∷ []) 1
  pub n12_lines : LinesAre job_one (line1 ∷ line2 ∷ [])

-- document 02's numbers, by request
pub record Requested : Type 0 where
  -- A1: job B with marks 2, 0, 2 is routed 1 2 1, with need 4
  pub a1 : RoutesFirst (job_b_marked 2 2) (1 ∷ 2 ∷ 1 ∷ []) 4
