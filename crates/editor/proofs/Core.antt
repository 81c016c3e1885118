-- The core: what P1's writer answers on some bytes, in a buffer that holds the file of the most connections, decides the core's answer. Assumes nothing.
use mathlib.Core.Path.{refl, ap, subst}
use mathlib.Core.List.{List}
use mathlib.Core.Logic.{inl, inr}
use Prim.Native.Nat.{ℕ, ◌+◌, ◌*◌, ◌≤◌, ◌<◌}
use native.Mathlib.Omega.{arith}
use lib.ListN.{length, take}
use lib.Seq.{length-sets}
use Rattle.std.specs.Prelude.{Result, Ok, Err}
use Rattle.refusals.specs.Table.{line, before}
use Rattle.refusals.specs.declared.Refusal.{Refusal}
use Rattle.refusals.specs.Refusal.{number_of}
use Rattle.channel.specs.Limits.{most_connections}
use Rattle.jobfile.specs.Rows.{connection_size}
use Rattle.route.specs.declared.Verdict.{Verdict}
use Rattle.route.specs.Routes.{Routes}
use Rattle.part.specs.P1.{p1}
use Rattle.part.specs.Writes.{Takes, part_rows, writer_rows, file_of, Writes}
use Rattle.part.proofs.Table.{p1_rule_lem}
use Rattle.part.proofs.Sections.{file_long}
use Rattle.part.proofs.RoundTrip.{written-file, file-room}
use Rattle.editor.specs.Edits.{refuses, routes, RoutesList}

-- how many bytes P1's file has with the most connections
abbrev pub most_file : ℕ
most_file = connection_size * most_connections + 58

-- bytes that the writer takes give a file that is not longer
file_short : (bytes : List ℕ) (k : ℕ) → Takes 30 8 (length bytes) k → length (file_of p1 bytes k) ≤ most_file
file_short bytes k t = omega (arith, file_long p1 p1_rule_lem bytes k t.whole, t.whole, t.limits.m_high)

-- 9 stands behind 2
two-before : line 2 < line 9
unfolding before
two-before = omega arith

module _ (bytes : List ℕ) (k : ℕ) (old new : List ℕ) where
  module _ (size : ℕ) (w : Writes p1 bytes k old (Ok size) new) where
    -- the length that is answered is not above the buffer's
    pub size-within : size ≤ length new
    size-within = omega (arith, w.1.next, file-room p1 p1_rule_lem bytes k old new size w, ap length w.1.is, length-sets old 0 (file_of p1 bytes k))

    -- the file is routed
    pub core_routes : (b : ℕ) (l l' : List ℕ) (v : Result Verdict Refusal) → Routes (take size new) b l v l' → RoutesList bytes k b l v l'
    core_routes b l l' v g = routes (λ n q h. w.0 n q (inl h)) (subst (λ f. Routes f b l v l') (written-file p1 p1_rule_lem bytes k old new size w) g)

  -- a refusal of the writer is one by 2 or 5, where the buffer holds the file of the most connections: what it takes has room, and the rest is refused by 2
  pub core_refuses : (r : Refusal) (w : Writes p1 bytes k old (Err r) new) (b : ℕ) (l : List ℕ) → most_file ≤ length old → RoutesList bytes k b l (Err r) l
  core_refuses r w b l long = refuses r (record { holds = which (number_of r.reason) r.place w.0.first w.0.holds; first = λ n q h. w.0.first n q (inl h) }) refl refl
    where
      which : (num place : ℕ) → ((n q : ℕ) → writer_rows p1 bytes k (length old) n q → line num ≤ line n) → writer_rows p1 bytes k (length old) num place → part_rows p1 bytes k num place
      which num place first (inl g) = g
      which num place first (inr g) = absurd (omega (arith, two-before, ap line g.0, first 2 0 (inl (inl (refl, ((λ t. omega (arith, g.1.0, file_short bytes k t)), refl))))))
