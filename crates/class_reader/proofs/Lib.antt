mod MemberLaws
mod ClassLaws
mod FileLaws
mod VerdictLaws
