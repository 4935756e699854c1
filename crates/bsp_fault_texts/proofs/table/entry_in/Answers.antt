use Rattle.std.proofs.Common.{◌≡◌, ℕ, ◌+◌, ◌<◌, length, get_or, drop, Bool, true, false, List, Some, map, cond, ap, sym, ◌∙◌}
use Rattle.std.specs.List.{find}
use Rattle.std.specs.Str.{bytes_eq}
use Rattle.std.proofs.lemmas.List.{at_drop_all, at_drop_more}
use Rattle.bsp_fault_texts.specs.Table.{said_in}
use Rattle.bsp_fault_texts.proofs.table.entry_in.Goals as goal

-- what is found first, by whether it is said by the element at a place, if by none before it
by_test : {A B : Type 0} (p : B → Bool) (f : A → B) (xs : List A) (i : ℕ) (x : A) (b : Bool) → i < length xs → p (f (get_or xs i x)) ≡ b → find p (map f (drop i xs)) ≡ find p (map f xs)
    → cond b (Some (f (get_or xs i x))) (find p (map f (drop (i + 1) xs))) ≡ find p (map f xs)
by_test p f xs i x b within test before =
    sym (ap (λ (t : Bool). cond t (Some (f (get_or xs i x))) (find p (map f (drop (i + 1) xs)))) test) ∙ sym (at_drop_more (λ l. find p (map f l)) xs i x within) ∙ before

pub returns-then-eq : goal.returns-then-eq
returns-then-eq c =
    by_test (λ s. bytes_eq s.code c.args.code.now) said_in c.args.rows.now c.loop-row.row-index _ true c.loop-row-test.true (sym c.eq.ensures ∙ c.if-eq.true) c.loop-row.invariant

pub loop-row-preserved : goal.loop-row-preserved
loop-row-preserved c =
    by_test (λ s. bytes_eq s.code c.args.code.now) said_in c.args.rows.now c.loop-row.row-index _ false c.loop-row-test.true (sym c.eq.ensures ∙ c.if-eq.false) c.loop-row.invariant

pub returns : goal.returns
returns c =
    sym (at_drop_all (λ l. find (λ s. bytes_eq s.code c.args.code.now) (map said_in l)) c.args.rows.now c.loop-row.row-index c.loop-row-test.false) ∙ c.loop-row.invariant
