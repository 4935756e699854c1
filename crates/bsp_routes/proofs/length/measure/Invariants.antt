use Rattle.std.proofs.Common.{◌≡◌, true, take, min}
use Rattle.std.specs.List.{list_all}
use Rattle.std.specs.Char.{is_ascii_digit}
use Rattle.std.specs.Str.Parse.{digits_value}
use Rattle.bsp_routes.proofs.length.measure.Given as goal

abbrev pub invariant-loop-b : goal.invariant-loop-b
invariant-loop-b l = record {
  value : l.len ≡ min (digits_value 10 (take l.b-index l.text)) 4194305;
  digits : list_all is_ascii_digit (take l.b-index l.text) ≡ true;
}
