use Rattle.std.proofs.Common.{refl}
use Rattle.std.specs.Fmt.{decimal}
use Rattle.mysql_wire_dump_lines.proofs.show.values.put_column.Goals as goal

pub returns-in_ok-put_value-in-Ok : goal.returns-in_ok-put_value-in-Ok
returns-in_ok-put_value-in-Ok g c =
    let put = c.in_ok-put_value-in-Ok.ensures in (
      (decimal c.args.place, put.0),
      (
        record {
          value = c.in-Ok.value;
          shown = put.0;
          is = record {
            null = λ set. let answer = c.in-Ok.ensures.null set in (cc (answer.0), answer.1);
            there = λ unset. (c.column_type.result, (c.column_type.ensures, c.in-Ok.ensures.there unset));
          };
          is_shown = put.1.0;
          member_is = refl;
        },
        put.1.1,
      ),
    )
