-- `route::decide`: the search by marks is the search through the legal partial routings, and what the budget leaves of it is the verdict. Assumes nothing.
use mathlib.Core.Path.{◌≡◌, subst, ◌∙◌}
use mathlib.Core.List.{[]}
use native.Mathlib.Nat.{sub-zero}
use native.Mathlib.Omega.{arith}
use Rattle.search.specs.Tree.{Res, place}
use Rattle.channel.specs.Channel.{T, M}
use Rattle.channel.specs.Routing.{routings}
use Rattle.jobfile.specs.Rows.{job_of}
use Rattle.jobfile.proofs.Decode.{job_valid}
use Rattle.jobfile.proofs.Exact.{job_numbers}
use Rattle.marks.specs.Marking.{marking}
use Rattle.marks.proofs.Kept.{inside, by_marking}
use Rattle.route.specs.Cut.{CutTo}
use Rattle.route.proofs.Verdicts.{judge_found, judge_dead, judge_spent}
use Rattle.route.proofs.decide.Goals as goal
use Rattle.route.proofs.decide.Goals.{After-place_connection, After-table-table}

-- the table's numbers are the job's
tracks_are : (c : After-table-table) → c.table-table.result.tracks ≡ T (job_of c.args.job.now.bytes.now)
tracks_are c = c.table-table.ensures.t_is ∙ (job_numbers c.args.job.now.bytes.now).t_is

connections_are : (c : After-table-table) → c.table-table.result.connections ≡ M (job_of c.args.job.now.bytes.now)
connections_are c = c.table-table.ensures.m_is ∙ (job_numbers c.args.job.now.bytes.now).m_is

-- what the search answers, of the routings
answer : (c : After-place_connection) → let j = job_of c.args.job.now.bytes.now in CutTo c.args.budget 0 (place (routings j) (M j) []) c.args.labels.now c.place_connection.result c.place_connection.new.labels
answer c =
    let f = c.args.job.now.bytes.now in
    let r = c.table-table.result in
    let t : r.tracks ≡ T (job_of f) = c.table-table.ensures.t_is ∙ (job_numbers f).t_is in
    let n : r.connections ≡ M (job_of f) = c.table-table.ensures.m_is ∙ (job_numbers f).m_is in
    subst (λ (o : Res). CutTo c.args.budget 0 o c.args.labels.now c.place_connection.result c.place_connection.new.labels)
    ((λ i. place (marking r.runs (t i)) ((sub-zero r.connections ∙ n) i) (0, c.none.ensures i))
    ∙ by_marking (job_of f) (job_valid f c.args.job.now.facts) r.runs c.table-table.ensures.runs)
    c.place_connection.ensures

pub place_connection-requires : goal.place_connection-requires
place_connection-requires c =
    let f = c.args.job.now.bytes.now in
    let w = (goal.at.place_connection-requires c).After-table-table in
    let t = tracks_are w in
    let n = connections_are w in
    (record { inside = λ i l h k g. inside (job_of f) (job_valid f c.args.job.now.facts) c.table-table.result.runs c.table-table.ensures.runs i l (omega arith) k (omega arith) }, omega arith, omega (arith, c.table-table.ensures.m_is))

pub overflow_sub-result : goal.overflow_sub-result
overflow_sub-result c =
    let e = connections_are (goal.at.overflow_sub-result c).After-table-table in
    (judge_found (job_of c.args.job.now.bytes.now) _ _ _ _ (omega (arith, c.requires, c.table-table.ensures.m_is)) (rw c.in-Found.is at (answer (goal.at.overflow_sub-result c).After-place_connection))).0

pub overflow_sub-result-in-Dead : goal.overflow_sub-result-in-Dead
overflow_sub-result-in-Dead c = (judge_dead (job_of c.args.job.now.bytes.now) _ _ _ _ (rw c.in-Dead.is at (answer (goal.at.overflow_sub-result-in-Dead c).After-place_connection))).0

pub returns-in-Found : goal.returns-in-Found
returns-in-Found c =
    let e = connections_are (goal.at.returns-in-Found c).After-table-table in
    (judge_found (job_of c.args.job.now.bytes.now) _ _ _ _ (omega (arith, c.requires, c.table-table.ensures.m_is)) (rw c.in-Found.is at (answer (goal.at.returns-in-Found c).After-place_connection))).1

pub returns-in-Dead : goal.returns-in-Dead
returns-in-Dead c = (judge_dead (job_of c.args.job.now.bytes.now) _ _ _ _ (rw c.in-Dead.is at (answer (goal.at.returns-in-Dead c).After-place_connection))).1

pub returns-in-Spent : goal.returns-in-Spent
returns-in-Spent c = judge_spent (job_of c.args.job.now.bytes.now) _ _ _ (rw c.in-Spent.is at (answer (goal.at.returns-in-Spent c).After-place_connection))
