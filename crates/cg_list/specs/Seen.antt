-- Bundles and lines as the definitions of listings have them.
use Rattle.cg_list.specs.declared.bundle.Shown as code_bundle
use Rattle.cg_list.specs.declared.line.Line as code_line
use Rattle.cg_model_source.specs.Listing.{Shown, ListedLine}

abbrev pub seen : code_bundle.Shown → Shown
seen s = record { text = s.text; size = s.size }

abbrev pub seen_line : code_line.Line → ListedLine
seen_line l = record { text = l.text; size = l.size }
