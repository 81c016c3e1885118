-- `read` asks the rows in the table's order and leaves at the first that holds: each way out is one of the laws answer_1 to answer_5.
-- Past the last the bytes keep every rule.
use Prim.Native.Nat.{ℕ, ◌+◌}
use Rattle.channel.specs.Limits.{Limits}
use Rattle.jobfile.specs.Rows.{trailer_at, two_at, connections_at, n_of, t_of, m_of, k_of, Placed, TrackKept}
use Rattle.jobfile.proofs.Exact.{answer_1, answer_2, answer_3, answer_4, answer_facts}
use Rattle.jobfile.proofs.file.JobFile.read.Goals as goal
use Rattle.jobfile.proofs.file.JobFile.read.Goals.{Else-not-within_limits, Else-not-is_placed, In_default}

limited : (c : Else-not-within_limits) → let f = c.args.bytes.now in Limits (n_of f) (t_of f) (m_of f) (k_of f)
limited c = let s = c.trailer_of-told.ensures.sizes_are in rw (s.n_is, s.t_is, s.k_is, c.from-m.ensures, s.m_is) at c.if-not-within_limits.ensures

placed : (c : Else-not-is_placed) → let f = c.args.bytes.now in Placed (two_at f (trailer_at f)) (two_at f (trailer_at f + 2)) (trailer_at f) (m_of f)
placed c = let t = c.trailer_of-told.ensures in rw (t.back1_is, t.back2_is, c.from-m.ensures, t.sizes_are.m_is) at c.if-not-is_placed.ensures

tracks : (c : In_default) → let f = c.args.bytes.now in (t : ℕ) → TrackKept f (n_of f) (connections_at f) (t_of f) t
tracks c = let s = c.trailer_of-told.ensures.sizes_are in rw (s.n_is, c.connections_at-start.ensures, c.from.ensures, s.t_is) at c.in_default.ensures

pub returns-then-bytes-lt-TRAILER : goal.returns-then-bytes-lt-TRAILER
returns-then-bytes-lt-TRAILER c = rw c.at.ensures (answer_1 c.args.bytes.now c.if-bytes-lt-TRAILER.true)

pub returns-then-not-within_limits : goal.returns-then-not-within_limits
returns-then-not-within_limits c = let s = c.trailer_of-told.ensures.sizes_are in
    rw c.at-then-not-within_limits.ensures (answer_2 c.args.bytes.now c.if-bytes-lt-TRAILER.false (rw (s.n_is, s.t_is, s.k_is, c.from-m.ensures, s.m_is) at c.if-not-within_limits.ensures))

pub returns-then-not-is_placed : goal.returns-then-not-is_placed
returns-then-not-is_placed c = let t = c.trailer_of-told.ensures in
    rw c.at-then-not-is_placed.ensures (answer_3 c.args.bytes.now c.if-bytes-lt-TRAILER.false (limited (goal.at.returns-then-not-is_placed c).Else-not-within_limits) (rw (t.back1_is, t.back2_is, c.from-m.ensures, t.sizes_are.m_is) at c.if-not-is_placed.ensures))

pub returns-in-Some : goal.returns-in-Some
returns-in-Some c = let s = c.trailer_of-told.ensures.sizes_are in
    rw c.at-in-Some.ensures (answer_4 c.args.bytes.now c.if-bytes-lt-TRAILER.false (limited (goal.at.returns-in-Some c).Else-not-within_limits) (placed (goal.at.returns-in-Some c).Else-not-is_placed) c.in-Some.bad (rw (s.n_is, c.connections_at-start.ensures, c.from.ensures, s.t_is) at c.in-Some.ensures))

pub invariant_of-result : goal.invariant_of-result
invariant_of-result c = let s = c.trailer_of-told.ensures.sizes_are in
    record {
      facts = answer_facts c.args.bytes.now c.if-bytes-lt-TRAILER.false (limited (goal.at.invariant_of-result c).Else-not-within_limits) (placed (goal.at.invariant_of-result c).Else-not-is_placed) (tracks (goal.at.invariant_of-result c).In_default) (rw (s.n_is, c.connections_at-start.ensures, c.from-m.ensures, s.m_is) at c.in_default-bad_connection.ensures);
      told = s;
    }
