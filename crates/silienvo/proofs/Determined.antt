-- Any two answers that the contract of an export allows are equal, and so is what they leave of the lent buffer: stated of the contracts as the checker reads them. Assumes nothing.
use mathlib.Core.Path.{◌≡◌, sym, ap, ◌∙◌}
use mathlib.Core.List.{List}
use Prim.Native.Nat.{ℕ}
use lib.ListN.{length}
use contract.Lifetimes.{Lfts}
use denote.Triple.Clauses.{AtExit}
use borrow.Fn.World.{ArgsD, ResD}
use borrow.Fn.Kinds.{ended_of}
use Rattle.loads.specs.Edits.{add, drop, move}
use Rattle.jobfile.proofs.Exact.{reads_one}
use Rattle.panel.proofs.Determined.{does_one, makes_one, signs_one}
use Rattle.route.proofs.Answers.{routes_one}
use Rattle.judge.proofs.Laws.{judges_one}
use Rattle.rows.proofs.Laws.{lines-one}
use Rattle.lines.proofs.Determined.{writes_one as line-writes-one}
use Rattle.part.specs.P1.{p1}
use Rattle.part.proofs.Answers.{writes_one}
use Rattle.reply.proofs.Exact.{replies_one}
use Rattle.jobfile.specs.declared.Connection.{Connection as Record}
use Rattle.editor.proofs.Answers.{edits_one}
use Rattle.editor.proofs.Panels.{routes_panel_one}
use Rattle.silienvo.specs.declared.SilienvoAnswer.{SilienvoAnswer}
use Rattle.silienvo.specs.Exports.{job_given, answer_given, done_given, length_given, verdict_given, reply_given, sign_given, EditSays}
use Rattle.silienvo.specs.contracts.silienvo_read as read
use Rattle.silienvo.proofs.silienvo_read.Kinds as read-kinds
use Rattle.silienvo.proofs.silienvo_read.Reads as read-reads
use Rattle.silienvo.specs.contracts.silienvo_route as route
use Rattle.silienvo.proofs.silienvo_route.Kinds as route-kinds
use Rattle.silienvo.proofs.silienvo_route.Reads as route-reads
use Rattle.silienvo.specs.contracts.silienvo_judge as judge
use Rattle.silienvo.proofs.silienvo_judge.Kinds as judge-kinds
use Rattle.silienvo.proofs.silienvo_judge.Reads as judge-reads
use Rattle.silienvo.specs.contracts.silienvo_rows as rows
use Rattle.silienvo.proofs.silienvo_rows.Kinds as rows-kinds
use Rattle.silienvo.proofs.silienvo_rows.Reads as rows-reads
use Rattle.silienvo.specs.contracts.silienvo_line as line
use Rattle.silienvo.proofs.silienvo_line.Kinds as line-kinds
use Rattle.silienvo.proofs.silienvo_line.Reads as line-reads
use Rattle.silienvo.specs.contracts.silienvo_reply as reply
use Rattle.silienvo.proofs.silienvo_reply.Kinds as reply-kinds
use Rattle.silienvo.proofs.silienvo_reply.Reads as reply-reads
use Rattle.silienvo.specs.contracts.silienvo_p1_write as p1-write
use Rattle.silienvo.proofs.silienvo_p1_write.Kinds as p1-write-kinds
use Rattle.silienvo.proofs.silienvo_p1_write.Reads as p1-write-reads
use Rattle.silienvo.specs.contracts.silienvo_p1_route as p1-route
use Rattle.silienvo.proofs.silienvo_p1_route.Kinds as p1-route-kinds
use Rattle.silienvo.proofs.silienvo_p1_route.Reads as p1-route-reads
use Rattle.silienvo.specs.contracts.silienvo_panel_make as panel-make
use Rattle.silienvo.proofs.silienvo_panel_make.Kinds as panel-make-kinds
use Rattle.silienvo.proofs.silienvo_panel_make.Reads as panel-make-reads
use Rattle.silienvo.specs.contracts.silienvo_panel_clear as panel-clear
use Rattle.silienvo.proofs.silienvo_panel_clear.Kinds as panel-clear-kinds
use Rattle.silienvo.proofs.silienvo_panel_clear.Reads as panel-clear-reads
use Rattle.silienvo.specs.contracts.silienvo_panel_add as panel-add
use Rattle.silienvo.proofs.silienvo_panel_add.Kinds as panel-add-kinds
use Rattle.silienvo.proofs.silienvo_panel_add.Reads as panel-add-reads
use Rattle.silienvo.specs.contracts.silienvo_panel_drop as panel-drop
use Rattle.silienvo.proofs.silienvo_panel_drop.Kinds as panel-drop-kinds
use Rattle.silienvo.proofs.silienvo_panel_drop.Reads as panel-drop-reads
use Rattle.silienvo.specs.contracts.silienvo_panel_move as panel-move
use Rattle.silienvo.proofs.silienvo_panel_move.Kinds as panel-move-kinds
use Rattle.silienvo.proofs.silienvo_panel_move.Reads as panel-move-reads
use Rattle.silienvo.specs.contracts.silienvo_panel_red as panel-red
use Rattle.silienvo.proofs.silienvo_panel_red.Kinds as panel-red-kinds
use Rattle.silienvo.proofs.silienvo_panel_red.Reads as panel-red-reads
use Rattle.silienvo.specs.contracts.silienvo_panel_p1_route as panel-p1-route
use Rattle.silienvo.proofs.silienvo_panel_p1_route.Kinds as panel-p1-route-kinds
use Rattle.silienvo.proofs.silienvo_panel_p1_route.Reads as panel-p1-route-reads

pub one-read : (κs : Lfts 1) (a : ArgsD read.signature κs) (r r' : ResD read.signature κs) (x x' : AtExit (ended_of 1 read-kinds.ps read-kinds.r) κs)
    → read-reads.Post κs a r x → read-reads.Post κs a r' x' → r ≡ r'
one-read κs a r r' x x' p q = p.is ∙ ap (job_given (length a.0.now)) (reads_one a.0.now p.answer q.answer p.says q.says) ∙ sym q.is

pub one_route : (κs : Lfts 2) (a : ArgsD route.signature κs) (r r' : ResD route.signature κs) (x x' : AtExit (ended_of 2 route-kinds.ps route-kinds.r) κs)
    → route-reads.Post κs a r x → route-reads.Post κs a r' x' → (r ≡ r') × (x.1.1.0.now ≡ x'.1.1.0.now)
one_route κs a r r' x x' p q = let d = routes_one a.0.now a.1.0 a.1.1.0.now p.answer q.answer _ _ p.says q.says in (p.is ∙ ap (answer_given verdict_given) d.0 ∙ sym q.is, d.1)

pub one_judge : (κs : Lfts 2) (a : ArgsD judge.signature κs) (r r' : ResD judge.signature κs) (x x' : AtExit (ended_of 2 judge-kinds.ps judge-kinds.r) κs)
    → judge-reads.Post κs a r x → judge-reads.Post κs a r' x' → r ≡ r'
one_judge κs a r r' x x' p q = p.is ∙ ap (answer_given done_given) (judges_one a.0.now a.1.0.now p.answer q.answer p.says q.says) ∙ sym q.is

pub one_rows : (κs : Lfts 3) (a : ArgsD rows.signature κs) (r r' : ResD rows.signature κs) (x x' : AtExit (ended_of 3 rows-kinds.ps rows-kinds.r) κs)
    → rows-reads.Post κs a r x → rows-reads.Post κs a r' x' → (r ≡ r') × (x.1.1.0.now ≡ x'.1.1.0.now)
one_rows κs a r r' x x' p q = let d = lines-one a.0.now a.1.0.now a.1.1.0.now p.answer q.answer _ _ p.says q.says in (p.is ∙ ap (answer_given length_given) d.0 ∙ sym q.is, d.1)

pub one_line : (κs : Lfts 2) (a : ArgsD line.signature κs) (r r' : ResD line.signature κs) (x x' : AtExit (ended_of 2 line-kinds.ps line-kinds.r) κs)
    → line-reads.Post κs a r x → line-reads.Post κs a r' x' → (r ≡ r') × (x.1.1.0.now ≡ x'.1.1.0.now)
one_line κs a r r' x x' p q = let d = line-writes-one a.0.now a.1.0 a.1.1.0.now p.answer q.answer _ _ p.says q.says in (p.is ∙ ap (answer_given length_given) d.0 ∙ sym q.is, d.1)

pub one_reply : (κs : Lfts 3) (a : ArgsD reply.signature κs) (r r' : ResD reply.signature κs) (x x' : AtExit (ended_of 3 reply-kinds.ps reply-kinds.r) κs)
    → reply-reads.Post κs a r x → reply-reads.Post κs a r' x' → (r ≡ r') × (x.1.1.0.now ≡ x'.1.1.0.now)
one_reply κs a r r' x x' p q = let d = replies_one a.0.now a.1.0.now a.1.1.0.now p.answer q.answer _ _ p.says q.says in (p.is ∙ ap (answer_given reply_given) d.0 ∙ sym q.is, d.1)

pub one_p1_write : (κs : Lfts 2) (a : ArgsD p1-write.signature κs) (r r' : ResD p1-write.signature κs) (x x' : AtExit (ended_of 2 p1-write-kinds.ps p1-write-kinds.r) κs)
    → p1-write-reads.Post κs a r x → p1-write-reads.Post κs a r' x' → (r ≡ r') × (x.1.1.0.now ≡ x'.1.1.0.now)
one_p1_write κs a r r' x x' p q = let d = writes_one p1 a.0.now a.1.0 a.1.1.0.now p.answer q.answer _ _ p.says q.says in (p.is ∙ ap (answer_given length_given) d.0 ∙ sym q.is, d.1)

pub edit_says_one : (cs : List Record) (k b : ℕ) (old : List ℕ) (r r' : SilienvoAnswer) (new new' : List ℕ) → EditSays cs k b old r new → EditSays cs k b old r' new' → (r ≡ r') × (new ≡ new')
edit_says_one cs k b old r r' new new' p q = let d = edits_one cs k b old p.answer q.answer new new' p.says q.says in (p.is ∙ ap (answer_given verdict_given) d.0 ∙ sym q.is, d.1)

pub one_p1_route : (κs : Lfts 2) (a : ArgsD p1-route.signature κs) (r r' : ResD p1-route.signature κs) (x x' : AtExit (ended_of 2 p1-route-kinds.ps p1-route-kinds.r) κs)
    → p1-route-reads.Post κs a r x → p1-route-reads.Post κs a r' x' → (r ≡ r') × (x.1.1.1.0.now ≡ x'.1.1.1.0.now)
one_p1_route κs a r r' x x' p q = edit_says_one a.0.now a.1.0 a.1.1.0 a.1.1.1.0.now r r' _ _ p q

pub one_panel_make : (κs : Lfts 1) (a : ArgsD panel-make.signature κs) (r r' : ResD panel-make.signature κs) (x x' : AtExit (ended_of 1 panel-make-kinds.ps panel-make-kinds.r) κs)
    → panel-make-reads.Post κs a r x → panel-make-reads.Post κs a r' x' → (r ≡ r') × (x.0.now ≡ x'.0.now)
one_panel_make κs a r r' x x' p q = let d = makes_one a.1.0 a.1.1.0 a.0.now p.answer q.answer _ _ p.says q.says in (p.is ∙ ap (answer_given done_given) d.0 ∙ sym q.is, d.1)

pub one_panel_clear : (κs : Lfts 1) (a : ArgsD panel-clear.signature κs) (r r' : ResD panel-clear.signature κs) (x x' : AtExit (ended_of 1 panel-clear-kinds.ps panel-clear-kinds.r) κs)
    → panel-clear-reads.Post κs a r x → panel-clear-reads.Post κs a r' x' → x.0.now ≡ x'.0.now
one_panel_clear κs a r r' x x' p q = p ∙ sym q

pub one_panel_add : (κs : Lfts 1) (a : ArgsD panel-add.signature κs) (r r' : ResD panel-add.signature κs) (x x' : AtExit (ended_of 1 panel-add-kinds.ps panel-add-kinds.r) κs)
    → panel-add-reads.Post κs a r x → panel-add-reads.Post κs a r' x' → (r ≡ r') × (x.0.now ≡ x'.0.now)
one_panel_add κs a r r' x x' p q = let d = does_one a.0.now (add (record { left = a.1.0; right = a.1.1.0; mark = a.1.1.1.0 })) p.answer q.answer _ _ p.says q.says in (p.is ∙ ap (answer_given done_given) d.0 ∙ sym q.is, d.1)

pub one_panel_drop : (κs : Lfts 1) (a : ArgsD panel-drop.signature κs) (r r' : ResD panel-drop.signature κs) (x x' : AtExit (ended_of 1 panel-drop-kinds.ps panel-drop-kinds.r) κs)
    → panel-drop-reads.Post κs a r x → panel-drop-reads.Post κs a r' x' → (r ≡ r') × (x.0.now ≡ x'.0.now)
one_panel_drop κs a r r' x x' p q = let d = does_one a.0.now (drop a.1.0) p.answer q.answer _ _ p.says q.says in (p.is ∙ ap (answer_given done_given) d.0 ∙ sym q.is, d.1)

pub one_panel_move : (κs : Lfts 1) (a : ArgsD panel-move.signature κs) (r r' : ResD panel-move.signature κs) (x x' : AtExit (ended_of 1 panel-move-kinds.ps panel-move-kinds.r) κs)
    → panel-move-reads.Post κs a r x → panel-move-reads.Post κs a r' x' → (r ≡ r') × (x.0.now ≡ x'.0.now)
one_panel_move κs a r r' x x' p q = let d = does_one a.0.now (move a.1.0 a.1.1.0 a.1.1.1.0) p.answer q.answer _ _ p.says q.says in (p.is ∙ ap (answer_given done_given) d.0 ∙ sym q.is, d.1)

pub one_panel_red : (κs : Lfts 1) (a : ArgsD panel-red.signature κs) (r r' : ResD panel-red.signature κs) (x x' : AtExit (ended_of 1 panel-red-kinds.ps panel-red-kinds.r) κs)
    → panel-red-reads.Post κs a r x → panel-red-reads.Post κs a r' x' → r ≡ r'
one_panel_red κs a r r' x x' p q = p.is ∙ ap sign_given (signs_one a.0.now p.answer q.answer p.says q.says) ∙ sym q.is

pub one_panel_p1_route : (κs : Lfts 2) (a : ArgsD panel-p1-route.signature κs) (r r' : ResD panel-p1-route.signature κs) (x x' : AtExit (ended_of 2 panel-p1-route-kinds.ps panel-p1-route-kinds.r) κs)
    → panel-p1-route-reads.Post κs a r x → panel-p1-route-reads.Post κs a r' x' → (r ≡ r') × (x.1.1.1.0.now ≡ x'.1.1.1.0.now)
one_panel_p1_route κs a r r' x x' p q = let d = routes_panel_one a.0.now a.1.0 a.1.1.0 a.1.1.1.0.now p.answer q.answer _ _ p.says q.says in (p.is ∙ ap (answer_given verdict_given) d.0 ∙ sym q.is, d.1)
