mod RunLaws
mod ColumnLemmas
mod PartLaws
mod RowLemmas
mod RunTextLaws
mod FrameTextLaws
mod PieceLaws
mod TextLemmas
