-- Old files mean what they meant: where marks are 0 or 1, document 01's rule is the rule, so legal routings, the first of them, the need and the verdicts are its own. Assumes nothing.
use mathlib.Core.Path.{◌≡◌, ap}
use mathlib.Core.Bool.{◌&&◌, ◌||◌, not}
use mathlib.Core.List.{List, [], ◌∷◌}
use Prim.Native.Nat.{ℕ, zero, suc, ◌%◌, ◌≤◌}
use native.Mathlib.Omega.{arith}
use lib.Dec.{eqb}
use lib.ListN.{get_or}
use borrow.Author.Tests.{eqb-true, eq-eqb}
use Rattle.facts.proofs.Bools.{iff}
use Rattle.search.specs.Budget.{Outcome}
use Rattle.channel.specs.Channel.{Track, Connection, Job, performance, net, critical, too_many, off_performance, barred, share, collide, track_at, connection_at}
use Rattle.channel.specs.Valid.{Each}
use Rattle.channel.specs.Routing.{rules_of, LegalBy, RoutableBy, FirstRoutingBy, Legal, Routable, FirstRouting}
use Rattle.channel.specs.Verdict.{NeedBy, DecidesBy, Need, Decides}
use Rattle.channel.specs.Before.{OldMarks, barred_before, rules_before}
use Rattle.channel.proofs.Nets.{alone_left, collide_strange}

-- of one connection
module _ (c : Connection) (m : c.mark ≤ 1) where
  pub old-net : net c ≡ 0
  unfolding net
  old-net = omega arith

  pub old-critical : critical c ≡ eqb c.mark 1
  unfolding critical
  old-critical = iff (λ h. eq-eqb c.mark 1 (let e = eqb-true (c.mark % 2) 1 h in omega arith)) (λ h. eq-eqb (c.mark % 2) 1 (let e = eqb-true c.mark 1 h in omega arith))

  pub old-barred : (limit : ℕ) (t : Track) → barred limit t c ≡ barred_before limit t c
  unfolding barred off_performance barred_before
  old-barred limit t = λ i. too_many limit t c || (old-critical i && not (performance t))

  pub old-collide : (t : Track) (d : Connection) → collide t c d ≡ share t c d
  old-collide t d = collide_strange c d t (alone_left c d old-net)

-- what each of a list keeps, and the default too, keeps every entry
each_get_d : {A : Type 0} (P : A → Type 0) (xs : List A) (d : A) → Each P xs → P d → (i : ℕ) → P (get_or xs i d)
unfolding Each
each_get_d P [] d e p i = p
each_get_d P (x ∷ xs) d e p zero = e.0
each_get_d P (x ∷ xs) d e p (suc i) = each_get_d P xs d e.1 p i

-- of a job
module _ (j : Job) (old : OldMarks j) where
  mark_old : (i : ℕ) → (connection_at j.connections i).mark ≤ 1
  unfolding connection_at
  mark_old i = each_get_d (λ c. c.mark ≤ 1) j.connections _ old (omega arith) i

  pub old_rules : rules_of j ≡ rules_before j
  old_rules = λ k.
      record {
        tracks = (rules_of j).tracks;
        connections = (rules_of j).connections;
        barred = λ i l. old-barred (connection_at j.connections i) (mark_old i) j.limit (track_at j.tracks l) k;
        collide = λ h i l. old-collide (connection_at j.connections h) (mark_old h) (track_at j.tracks l) (connection_at j.connections i) k;
      }

  pub old-legal : (q : List ℕ) → Legal j q ≡ LegalBy (rules_before j) q
  old-legal q = ap (λ r. LegalBy r q) old_rules

  pub old_routable : Routable j ≡ RoutableBy (rules_before j)
  old_routable = ap (λ r. RoutableBy r) old_rules

  pub old-first : (q : List ℕ) → FirstRouting j q ≡ FirstRoutingBy (rules_before j) q
  old-first q = ap (λ r. FirstRoutingBy r q) old_rules

  pub old_need : (n : ℕ) → Need j n ≡ NeedBy (rules_before j) n
  old_need n = ap (λ r. NeedBy r n) old_rules

  pub old_verdict : (b : ℕ) (o : Outcome) → Decides j b o ≡ DecidesBy (rules_before j) b o
  old_verdict b o = ap (λ r. DecidesBy r b o) old_rules
