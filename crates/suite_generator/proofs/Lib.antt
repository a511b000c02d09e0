mod SuiteLaws
mod StatedLaws
