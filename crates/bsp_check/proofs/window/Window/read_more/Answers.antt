use Rattle.std.proofs.Common.{◌≤◌, ◌+◌, ◌-◌, ◌++◌, length, take, drop, refl, sym, ◌∙◌, arith}
use Rattle.std.specs.Vec.{with_items}
use Rattle.bsp_check.specs.declared.window.Window.{Window}
use Rattle.bsp_check.specs.Windows.{room}
use Rattle.bsp_check.proofs.WindowLemmas.{all_written, long_written, some_read}
use Rattle.bsp_check.proofs.window.Window.read_more.Goals as goal

pub returns-in-Ok-clause-read : goal.returns-in-Ok-clause-read
returns-in-Ok-clause-read g c =
    let w = c.args.self.now in
    let items = c.deref_mut.result.now in
    let k = w.filled + c.min.result - w.filled in
    let fits : w.filled + k ≤ room = omega (arith, c.min.ensures, c.requires.room) in
    let all = take w.filled items ++ (c.read.new.buf ++ drop k (drop w.filled items)) in
    let new : Window = record { room = with_items w.room all; filled = w.filled + c.in-Ok.count; left = w.left - c.in-Ok.count; ended = w.ended } in
    let long = long_written w items c.read.new.buf k c.requires.window c.deref_mut.ensures.value c.read.auto.buf fits in
    some_read w new items c.read.new.buf k c.in-Ok.count _ _ c.requires.window c.deref_mut.ensures.value (all_written w.room.len all (drop (length all) w.room.items) (long ∙ sym w.room.ok.0)) c.read.auto.buf
    fits (omega (arith, c.min.ensures)) c.in-Ok.ensures.bound.0 refl refl c.requires.goes_on c.requires.goes_on c.in-Ok.ensures.bytes.0
