use Rattle.std.proofs.Common.{◌≡◌, ◌∙◌, append_assoc, List, ◌++◌, Result, Ok, Err, OnOk, is_ok, if◌then◌else◌}
use Rattle.std.specs.FinMap.{entries}
use Rattle.std.specs.Result.{result_ok}
use Rattle.bsp_maps.proofs.PickLemmas.{all_pass}
use Rattle.bsp_maps.specs.Undo.{content}
use Rattle.bsp_maps.specs.Windows.{values_in}
use Rattle.bsp_rows.specs.Codes.{code_reading}
use Rattle.bsp_memory_tables.specs.Numbers.{is_of_number, number_cmp, own_keys}
use Rattle.bsp_memory_tables.proofs.numbers.add_keys_at.Goals as goal

extended : {A B X : Type 0} (r : Result A B) (new old own mid more wanted : List X) → new ≡ (if is_ok r then mid ++ more else mid) → mid ≡ old ++ own → more ≡ wanted → OnOk r (new ≡ old ++ (own ++ wanted))
extended (Ok x) new old own mid more wanted e m f = e ∙ (λ i. m i ++ f i) ∙ append_assoc old own wanted
extended (Err y) new old own mid more wanted e m f = tt

pub returns : goal.returns
returns c =
    let agent = c.args.window.now.agent in
    let number = c.args.window.now.number in
    let wanted = values_in (is_of_number agent number) (entries (content number_cmp c.args.index.now)) in
    extended c.extend_from_slice.result c.extend_from_slice.new.self.items c.args.found.now.items (own_keys agent (result_ok (code_reading 10 number))) c.add_own_keys.new.found.items c.deref.result.now wanted
    c.extend_from_slice.ensures.items c.in_ok-add_own_keys.ensures
    (c.deref.ensures.value ∙ c.in_ok-keys.ensures ∙ all_pass wanted)
