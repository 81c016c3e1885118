-- The models of a job's clauses are the codes of its legal routings, all of them and no others, each once. Assumes nothing.
use mathlib.Core.Path.{◌≡◌, refl, sym, ap, ◌∙◌, subst}
use mathlib.Core.Logic.{◌↔◌}
use mathlib.Core.Bool.{Bool}
use mathlib.Core.List.{List, [], ◌∷◌}
use Prim.Native.Nat.{ℕ, zero, suc, ◌+◌, ◌*◌, ◌-◌, ◌^◌, ◌≤◌, ◌<◌}
use native.Mathlib.Omega.{arith}
use native.Mathlib.Nat.{add-sub_cancel}
use lib.ListN.{length, get_or, length-map, get_or-map}
use Rattle.dimacs.specs.Clause.{value_in}
use Rattle.channel.specs.Channel.{Job, M, Barred, Collide}
use Rattle.channel.specs.Routing.{Routing}
use Rattle.clauses.specs.Clauses.{Grid, grid_of, label_with, code_with, width_of, width, ModelOf, Model, spell, codes, spelled}
use Rattle.clauses.specs.Reading.{codes_in, labels, labels_in}
use Rattle.clauses.proofs.Width.{bits_for_is}
use Rattle.clauses.proofs.Spelling.{spell-codes, codes-spell, codes-length, spell-length, codes_at, code_at-number}
use Rattle.clauses.proofs.Says.{Fits, fits_same, code_by, fits_all, all_fits}

-- of a grid: the models are what codes that keep its rules spell
module _ (grid : Grid) where
  abbrev read : List Bool → List ℕ
  read a = codes_in (width_of grid) grid.connections a

  code_read : (a : List Bool) (i : ℕ) → i < grid.connections → code_by grid (value_in a) i ≡ get_or (read a) i 0
  code_read a i l = code_at-number a (i * width_of grid) (width_of grid) ∙ sym (codes_at (width_of grid) grid.connections i a l)

  abbrev at : List ℕ → ℕ → ℕ
  at p i = get_or p i 0

  model_fits : (a : List Bool) → ModelOf grid a → Fits grid (at (read a))
  model_fits a m = fits_same grid _ _ (code_read a) (all_fits grid (value_in a) m.all)

  fits_small : (p : List ℕ) → length p ≡ grid.connections → Fits grid (at p) → (i : ℕ) → i < length p → at p i < 2 ^ width_of grid
  fits_small p m g i l = let t = g.tracks i (omega arith) in let w = (bits_for_is grid.tracks).enough in omega arith

  read-spell : (p : List ℕ) → length p ≡ grid.connections → Fits grid (at p) → read (spell (width_of grid) p) ≡ p
  read-spell p m g = ap (λ n. codes_in (width_of grid) n (spell (width_of grid) p)) (sym m) ∙ codes-spell (width_of grid) p (fits_small p m g)

  fits_model : (p : List ℕ) → length p ≡ grid.connections → Fits grid (at p) → ModelOf grid (spell (width_of grid) p)
  fits_model p m g =
      let a = spell (width_of grid) p in
      record {
        many = spell-length (width_of grid) p ∙ ap (λ n. n * width_of grid) m;
        all = fits_all grid (value_in a) (fits_same grid _ _ (λ i l. sym (code_read a i l)) (subst (λ q. Fits grid (at q)) (sym (read-spell p m g)) g));
      }

-- labels and codes
codes-labels : (p : List ℕ) → codes (labels p) ≡ p
codes-labels [] = refl
codes-labels (c ∷ p) = λ z. add-sub_cancel c 1 z ∷ codes-labels p z

labels-codes : (q : List ℕ) → ((i : ℕ) → i < length q → 1 ≤ get_or q i 0) → labels (codes q) ≡ q
labels-codes [] h = refl
labels-codes (l ∷ q) h = let k = h 0 (omega arith) in let e : l - 1 + 1 ≡ l = omega arith in λ z. e z ∷ labels-codes q (λ i g. h (suc i) (omega arith)) z

pub label_at : (p : List ℕ) (i : ℕ) → i < length p → get_or (labels p) i 0 ≡ label_with (get_or p i 0)
label_at [] i l = absurd (omega arith)
label_at (c ∷ p) zero l = refl
label_at (c ∷ p) (suc i) l = label_at p i (omega arith)

module _ (j : Job) where
  -- a routing's codes keep the rules of the job's grid, and codes that keep them have the labels of a routing
  routing_fits : (q : List ℕ) → Routing j q → Fits (grid_of j) (λ i. get_or (codes q) i 0)
  routing_fits q r =
      let m = r.whole in
      fits_same (grid_of j) (λ i. get_or q i 0 - 1) _ (λ i l. sym (get_or-map code_with q i 0)) (record {
        tracks = λ i l. let g = r.legal.labels i (omega arith) in omega (arith, g.0, g.1);
        allowed = λ i l. ap (Barred j i) (back i l) ∙ r.legal.allowed i (omega arith);
        apart = λ h i l k e.
            let g : h < M j = omega arith in
            let s : get_or q h 0 ≡ get_or q i 0 = sym (back h g) ∙ ap (λ c. c + 1) e ∙ back i k in
            ap (Collide j h i) (back h g ∙ s) ∙ r.legal.apart h i l (omega arith) s;
      })
    where
      back : (i : ℕ) → i < M j → get_or q i 0 - 1 + 1 ≡ get_or q i 0
      back i l = let m = r.whole in let g = r.legal.labels i (omega arith) in omega (arith, g.0)

  fits_routing : (p : List ℕ) → length p ≡ M j → Fits (grid_of j) (λ i. get_or p i 0) → Routing j (labels p)
  fits_routing p m g =
      let n : length (labels p) ≡ M j = length-map p label_with ∙ m in
      record {
        legal = record {
          few = omega arith;
          labels = λ i l. let e = label_at p i (omega arith) in let t = g.tracks i (omega arith) in (omega arith, omega arith);
          allowed = λ i l. ap (Barred j i) (label_at p i (omega arith)) ∙ g.allowed i (omega arith);
          apart = λ h i l k e.
              let s = label_at p h (omega arith) in
              let t = label_at p i (omega arith) in
              let u : get_or p h 0 ≡ get_or p i 0 = omega arith in
              ap (Collide j h i) (t ∙ ap label_with (sym u)) ∙ g.apart h i l (omega arith) u;
        };
        whole = n;
      }

  codes_many : (q : List ℕ) → Routing j q → length (codes q) ≡ M j
  codes_many q r = length-map q code_with ∙ r.whole

  -- the labels that a model gives are a routing
  pub model_routing : (a : List Bool) → Model j a → Routing j (labels_in j a)
  model_routing a m = fits_routing (codes_in (width j) (M j) a) (codes-length (width j) (M j) a) (model_fits (grid_of j) a m)

  -- whose codes it spells
  pub model_spells : (a : List Bool) → Model j a → a ≡ spelled j (labels_in j a)
  model_spells a m = sym (spell-codes (width j) (M j) a m.many) ∙ ap (spell (width j)) (sym (codes-labels (codes_in (width j) (M j) a)))

  -- each routing has a model: its codes
  pub each_routing_has_one : (q : List ℕ) → Routing j q → Model j (spelled j q)
  each_routing_has_one q r = fits_model (grid_of j) (codes q) (codes_many q r) (routing_fits q r)

  -- and that model gives its labels
  pub labels_of_spelled : (q : List ℕ) → Routing j q → labels_in j (spelled j q) ≡ q
  labels_of_spelled q r =
      ap labels (read-spell (grid_of j) (codes q) (codes_many q r) (routing_fits q r))
      ∙ labels-codes q (λ i l. (r.legal.labels i l).0)

  -- THE THEOREM: an assignment is a model exactly if it spells the codes of a routing
  pub models : (a : List Bool) → Model j a ↔ ((q : List ℕ) × Routing j q × (a ≡ spelled j q))
  models a = ((λ m. (labels_in j a, model_routing a m, model_spells a m)), (λ r. subst (Model j) (sym r.2) (each_routing_has_one r.0 r.1)))

  -- different routings have different codes
  pub spell_once : (q p : List ℕ) → Routing j q → Routing j p → spelled j q ≡ spelled j p → q ≡ p
  spell_once q p r s e = sym (labels_of_spelled q r) ∙ ap (labels_in j) e ∙ labels_of_spelled p s
