-- One more line of a reading.
use Rattle.std.proofs.Common.{◌≡◌, ℕ, ◌+◌, true, false, List, [], ◌∷◌, Result, Ok, Err, refl, sym, ap, ◌∙◌}
use Rattle.bsp_ret.specs.declared.model.FaultCode.{FaultCode}
use Rattle.bsp_ret.specs.declared.model.FaultCode.TheVariants.{F08}
use Rattle.bsp_ret.specs.declared.model.RetFault.{RetFault}
use Rattle.bsp_ret.specs.declared.model.Standing.{Standing}
use Rattle.bsp_ret.specs.Table.{has_ended, row_fault}
use Rattle.bsp_ret.specs.Standings.{standing_behind}
use Rattle.bsp_ret.specs.Ret.{File}
use Rattle.bsp_ret.specs.Reading.{Draft, add, read_from}
use Rattle.bsp_ret.proofs.Steps.{read_nil, read_cons}

-- a line without fault
pub goes_on : (at at2 : Standing) (d d2 : Draft) (ls rest : List (List ℕ)) (line : List ℕ) (total : Result File RetFault) → ls ≡ line ∷ rest → row_fault at line ≡ Ok tt → at2 ≡ standing_behind at line → d2 ≡ add d line → read_from at d ls ≡ total → read_from at2 d2 rest ≡ total
goes_on at at2 d d2 ls rest line total cut none stands drafted so_far =
    let one : read_from at d ls ≡ read_from (standing_behind at line) (add d line) rest = ap (read_from at d) cut ∙ read_cons at d line rest ∙ rw none refl in
    rw (stands, drafted) (sym one ∙ so_far)

-- a line at fault
pub fails : (at : Standing) (d : Draft) (ls rest : List (List ℕ)) (line : List ℕ) (total : Result File RetFault) (code : FaultCode) → ls ≡ line ∷ rest → row_fault at line ≡ Err code → read_from at d ls ≡ total → total ≡ Err (record { code = code; at = at.records + 1 })
fails at d ls rest line total code cut fault so_far =
    sym so_far ∙ ap (read_from at d) cut ∙ read_cons at d line rest ∙ rw fault refl

-- no more lines
pub ends : (at : Standing) (d : Draft) (ls : List (List ℕ)) (total : Result File RetFault) → ls ≡ [] → has_ended at.last ≡ true → read_from at d ls ≡ total → total ≡ Ok (record { header = d.header; groups = d.closed; trailer = d.trailer })
ends at d ls total none ended so_far = sym so_far ∙ ap (read_from at d) none ∙ read_nil at d ∙ rw ended refl

pub lacks : (at : Standing) (d : Draft) (ls : List (List ℕ)) (total : Result File RetFault) → ls ≡ [] → has_ended at.last ≡ false → read_from at d ls ≡ total → total ≡ Err (record { code = F08; at = at.records + 1 })
lacks at d ls total none open_end so_far = sym so_far ∙ ap (read_from at d) none ∙ read_nil at d ∙ rw open_end refl
