-- THE LINES READ BACK: the lines of a job, read as DIMACS, say V, C and its clause list. So the models of the exported text are the codes of the routings. Assumes nothing.
use mathlib.Core.Path.{◌≡◌, refl, sym, ap, ◌∙◌}
use mathlib.Core.Logic.{◌↔◌}
use mathlib.Core.Bool.{Bool, true, ◌&&◌}
use mathlib.Core.List.{List, [], ◌∷◌, ◌++◌, map, append_assoc}
use Prim.Native.Nat.{ℕ, zero, suc, ◌≤◌}
use native.Mathlib.Omega.{arith}
use lib.ListN.{length, get_or, drop}
use Rattle.facts.proofs.Bools.{and_left, and_right}
use Rattle.text.specs.Text.{digits}
use Rattle.dimacs.specs.Clause.{Clause, value_in, makes_all, within, within_all}
use Rattle.dimacs.specs.Reply.{split, lines, decimal, closed}
use Rattle.dimacs.specs.Lines.{literals_text, clause_text, clause_line, clauses_text, clause_in, clauses_in, header_text, three_digits}
use Rattle.dimacs.specs.ReadBack.{header_line, ReadsBack}
use Rattle.dimacs.proofs.Meaning.{is_closed}
use Rattle.dimacs.proofs.ReadBack.{reads_back, clause_reads}
use Rattle.channel.specs.Limits.{most_variables}
use Rattle.channel.specs.Channel.{Job, T, M}
use Rattle.channel.specs.Valid.{Valid}
use Rattle.channel.specs.Routing.{Routing}
use Rattle.clauses.specs.Clauses.{grid_of, bits_for, join_to, clauses, variable_count, clause_count, spelled}
use Rattle.clauses.proofs.Joins.{join_front}
use Rattle.clauses.proofs.Order.{clauses-within}
use Rattle.clauses.proofs.Models.{models}
use Rattle.clauses.proofs.Width.{variables_few}
use Rattle.places.specs.Table.{many_clauses}
use Rattle.places.proofs.Sizes.{few_bits, few_codes}
use Rattle.places.proofs.Rows.{places_few}
use Rattle.places.proofs.Places.{length_places}
use Rattle.lines.specs.Lined.{text_of, line_text}
use Rattle.lines.specs.Export.{export_text, is_clause_line, SaysClauses}

each_clauses : (cs : List Clause) → join_to (length cs) (λ i. clause_text (get_or cs i [])) ≡ clauses_text cs
unfolding join_to clauses_text
each_clauses [] = refl
each_clauses (c ∷ cs) = join_front (length cs) (λ i. clause_text (get_or (c ∷ cs) i [])) ∙ ap (λ l. clause_text c ++ l) (each_clauses cs)

-- the text is line 0 and the clauses' lines
pub exported : (j : Job) → export_text j ≡ header_text (variable_count j) (clause_count j) ++ clauses_text (clauses j)
unfolding export_text text_of
exported j = join_front (clause_count j) (line_text j) ∙ ap (λ l. header_text (variable_count j) (clause_count j) ++ l) (each_clauses (clauses j))

formed_line : (c : Clause) → within three_digits c ≡ true → is_clause_line (clause_line c) ≡ true
unfolding is_clause_line
formed_line c h = let r = clause_reads c h in λ z. r.1 z && ((ap closed r.0 ∙ is_closed c) z)

within-at : (n : ℕ) (cs : List Clause) (k : ℕ) → within_all n cs ≡ true → within n (get_or cs k []) ≡ true
unfolding within_all within
within-at n [] k h = refl
within-at n (c ∷ cs) zero h = and_left (within n c) _ h
within-at n (c ∷ cs) (suc k) h = within-at n cs k (and_right (within n c) _ h)

module _ (j : Job) (v : Valid j) where
  few_variables : variable_count j ≤ most_variables
  few_variables = let l = v.limits in variables_few (M j) (bits_for (T j)) l.m_high (few_bits (T j) (let h = l.t_high in omega arith))

  few_clauses : clause_count j ≤ many_clauses
  few_clauses =
      let l = v.limits in
      let h = l.t_high in
      let e = length_places (grid_of j) in
      let k = places_few (grid_of j) (few_codes (T j) (omega arith)) l.m_high in
      omega arith

  short : within_all three_digits (clauses j) ≡ true
  short = clauses-within (grid_of j) three_digits (let f = few_variables in omega arith)

  back : ReadsBack (variable_count j) (clause_count j) (clauses j)
  back = reads_back (variable_count j) (clause_count j) (clauses j) (let f = few_variables in omega arith) (let f = few_clauses in omega arith) short

  first : lines (export_text j) ≡ header_line (variable_count j) (clause_count j) ∷ lines (clauses_text (clauses j))
  first = ap lines (exported j) ∙ back.first_line

  pub export_says : SaysClauses (export_text j) (variable_count j) (clause_count j) (clauses j)
  unfolding clauses_in
  export_says = record {
    v_word = digits 9 (variable_count j);
    c_word = digits 9 (clause_count j);
    header = ap (λ l. split 32 (get_or l 0 [])) first ∙ back.header_is;
    variables = back.variables_are;
    count = back.count_is;
    clauses = ap (λ l. map clause_in (drop 1 l)) first ∙ back.clauses_are;
  }

  -- each line but the first is a clause line and LF
  pub line_formed : (n : ℕ) → (line_text j (suc n) ≡ clause_line (get_or (clauses j) n []) ++ (10 ∷ [])) × (is_clause_line (clause_line (get_or (clauses j) n [])) ≡ true)
  unfolding text_of clause_text clause_line
  line_formed n = (sym (append_assoc (literals_text (get_or (clauses j) n [])) (48 ∷ []) (10 ∷ [])), formed_line (get_or (clauses j) n []) (within-at three_digits (clauses j) n short))

  -- an assignment of V variables makes all clauses of the text true exactly if it spells the codes of a routing
  pub export_models : (cs : List Clause) (n c : ℕ) → SaysClauses (export_text j) n c cs → (a : List Bool) → ((length a ≡ n) × (makes_all (value_in a) cs ≡ true)) ↔ ((q : List ℕ) × Routing j q × (a ≡ spelled j q))
  export_models cs n c s a =
      let e : cs ≡ clauses j = sym s.clauses ∙ export_says.clauses in (
        (λ m. (models j a).0 (record { many = m.0 ∙ count_same s; all = ap (makes_all (value_in a)) (sym e) ∙ m.1 })),
        (λ r. let m = (models j a).1 r in (m.many ∙ sym (count_same s), ap (makes_all (value_in a)) e ∙ m.all)),
      )
    where
      count_same : SaysClauses (export_text j) n c cs → n ≡ variable_count j
      count_same s =
          let p : s.v_word ≡ export_says.v_word = (let q = sym s.header ∙ export_says.header in cc) in
          sym s.variables ∙ ap (decimal 0) p ∙ export_says.variables
