-- Reading counts by the slices' lengths alone, and the rows that were read are the first slots.
use mathlib.Core.Path.{◌≡◌, ◌∙◌}
use lib.ListN.{length}
use Rattle.std.proofs.Common.{rules}
use Rattle.host.proofs.Reading.{read_as, fits, held}
use Rattle.host.proofs.table.Table.read.Goals as goal

pub returns : goal.returns
returns g c =
    let a = c.args in
    let d = a.self.now.depths in
    let l = a.self.now.labels in
    let n = g.row.N in
    let read = c.read.ensures in
    let slots : length d ≡ n = search rules in
    record {
      answer = read.answer ∙ read_as a.input.now a.start a.limit d l n slots (search rules);
      fit = fits a.input.now a.start a.limit d l n c.read.result slots read.answer;
      rows = held a.input.now a.start a.limit d l c.read.result read.depths_after read.labels_after;
    }
