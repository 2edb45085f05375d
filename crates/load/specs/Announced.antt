-- A header that was read, as the definitions have it.
use Rattle.redbin.specs.Reading.{Heading as Headed}
use Rattle.load.specs.declared.header.Heading.{Heading}

abbrev pub headed : Heading → Headed
headed h = record { place = h.place; form = h.form; new_line = h.new_line }
